use Rattle.std.proofs.Common.{arith}
use Rattle.addr_core.proofs.SixSteps.{power_sixteen}
use Rattle.addr_core.proofs.six.group.Goals as goal

pub overflow_mul-group : goal.overflow_mul-group
overflow_mul-group c = omega (arith, c.loop-byte.invariant.1, power_sixteen c.loop-byte.byte-index (omega arith))

pub overflow_add-group : goal.overflow_add-group
overflow_add-group c = omega (arith, c.loop-byte.invariant.1, power_sixteen c.loop-byte.byte-index (omega arith))
