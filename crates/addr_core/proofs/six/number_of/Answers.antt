use Rattle.std.proofs.Common.{arith}
use Rattle.addr_core.proofs.SixSteps.{power_group}
use Rattle.addr_core.proofs.six.number_of.Goals as goal

pub overflow_mul-number : goal.overflow_mul-number
overflow_mul-number c = omega (arith, c.loop-group.invariant.1, power_group c.loop-group.group-index (omega arith))
