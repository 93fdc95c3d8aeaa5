use Rattle.std.proofs.Common.{◌≡◌, ◌++◌, drop}
use Rattle.std.specs.Prelude.{flat_map}
use Rattle.std.specs.List.{enumerate_from}
use Rattle.conn_model.specs.History.{listeners_of}
use Rattle.conn_core.proofs.opening.listeners.Given as goal

abbrev pub invariant-loop-number : goal.invariant-loop-number
invariant-loop-number l = l.all ++ flat_map listeners_of (enumerate_from l.number (drop l.number l.frontends)) ≡ flat_map listeners_of (enumerate_from 0 l.frontends)
