use Rattle.std.proofs.Common.{◌≡◌, ◌++◌, map, take}
use Rattle.conn_core.proofs.opening.push_listeners.Given as goal

abbrev pub invariant-loop-bind : goal.invariant-loop-bind
invariant-loop-bind l = l.listeners ≡ l.initial.listeners ++ map (λ bind. record { frontend = l.number; at = bind.at; accept_proxy = bind.accept_proxy }) (take l.bind-index l.bind-items)
