use Rattle.std.proofs.Common.{◌≡◌, ◌++◌, replicate}
use Rattle.addr_core.proofs.six.push_zeros.Given as goal

abbrev pub invariant-loop : goal.invariant-loop
invariant-loop l = l.groups.items ≡ l.fn.groups.items ++ replicate l.counter 0
