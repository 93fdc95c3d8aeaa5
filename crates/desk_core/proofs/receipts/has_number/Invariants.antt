use Rattle.std.proofs.Common.{◌-◌}
use Rattle.desk_core.proofs.Lists.{Halved}
use Rattle.desk_core.proofs.receipts.has_number.Given as goal

abbrev pub invariant-loop-low : goal.invariant-loop-low
invariant-loop-low l = Halved l.pass l.number l.low l.high

abbrev pub decreases-loop-low : goal.decreases-loop-low
decreases-loop-low l = l.high - l.low
