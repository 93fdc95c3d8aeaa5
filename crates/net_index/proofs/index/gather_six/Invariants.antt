use Rattle.std.proofs.Common.{◌≡◌, ℕ, true, take}
use Rattle.std.specs.List.{list_any}
use Rattle.net_index.specs.Ranges.{covers}
use Rattle.net_index.specs.Index.{has_addr, numbered}
use Rattle.net_index.proofs.index.gather_six.Given as goal

abbrev pub invariant-loop-net : goal.invariant-loop-net
invariant-loop-net l = (n : ℕ) → covers l.ranges.items n ≡ list_any (has_addr (numbered true n)) (take l.net-index l.nets)
