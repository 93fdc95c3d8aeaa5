use Rattle.std.proofs.Common.{◌≡◌, [], map, take}
use Rattle.conn_rows.proofs.opening.frontends.Given as goal

abbrev pub invariant-loop-frontend : goal.invariant-loop-frontend
invariant-loop-frontend l = l.states.items ≡ map (λ frontend. record { name = frontend.name; serial = l.last; rows = [] }) (take l.frontend-index l.frontends)
