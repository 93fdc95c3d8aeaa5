use Rattle.std.proofs.Common.{◌≡◌, ℕ, false, map, take}
use Rattle.std.specs.List.{list_any}
use Rattle.net_index.specs.Ranges.{covers, wide}
use Rattle.net_index.specs.Index.{has_addr, numbered}
use Rattle.net_index.proofs.index.gather_four.Given as goal

abbrev pub invariant-loop-net : goal.invariant-loop-net
invariant-loop-net l = (n : ℕ) → covers (map wide l.ranges.items) n ≡ list_any (has_addr (numbered false n)) (take l.net-index l.nets)
