use Rattle.std.proofs.Common.{◌-◌}
use Rattle.desk_core.proofs.Segments.{Sought}
use Rattle.desk_core.proofs.records.find_chained.Given as goal

abbrev pub invariant-loop-low : goal.invariant-loop-low
invariant-loop-low l = Sought l.segments l.number l.low l.high

abbrev pub decreases-loop-low : goal.decreases-loop-low
decreases-loop-low l = l.high - l.low
