use Rattle.std.proofs.Common.{◌≡◌, ◌++◌, drop}
use Rattle.acl_core.specs.Networks.{source_networks}
use Rattle.acl_core.proofs.tests.source_networks.Given as goal

abbrev pub invariant-loop-test : goal.invariant-loop-test
invariant-loop-test l = l.nets.items ++ source_networks (drop l.test-index l.tests) ≡ source_networks l.tests
