use Rattle.std.proofs.Common.{◌≡◌, ◌++◌, drop}
use Rattle.std.specs.List.{flat_map}
use Rattle.whatif_core.specs.Sums.{pair_line}
use Rattle.whatif_core.proofs.tally.write_pairs.Given as goal

abbrev pub invariant-loop-pair : goal.invariant-loop-pair
invariant-loop-pair l = l.out.items ++ flat_map pair_line (drop l.pair-index l.pairs) ≡ l.initial.out.items ++ flat_map pair_line l.pairs
