use Rattle.std.proofs.Common.{◌≡◌, ◌++◌, drop}
use Rattle.acl_core.specs.Networks.{networks}
use Rattle.acl_core.proofs.test.networks_of.Given as goal

abbrev pub invariant-loop-pattern : goal.invariant-loop-pattern
invariant-loop-pattern l = l.nets.items ++ networks (drop l.pattern-index l.patterns) ≡ networks l.patterns
