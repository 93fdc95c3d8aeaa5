use Rattle.std.proofs.Common.{◌≡◌, None, map, take}
use Rattle.conn_versions.proofs.opening.cursors.Given as goal

abbrev pub invariant-loop-backend : goal.invariant-loop-backend
invariant-loop-backend l = l.cursors ≡ map (λ backend. None) (take l._backend-index l.backends)
