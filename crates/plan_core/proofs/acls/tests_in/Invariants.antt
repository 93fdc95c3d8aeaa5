use Rattle.std.proofs.Common.{◌≡◌, ◌++◌, drop}
use Rattle.plan_core.specs.Fields.{line_test, all_of}
use Rattle.plan_core.proofs.acls.tests_in.Given as goal

abbrev pub invariant-loop-item : goal.invariant-loop-item
invariant-loop-item l = l.tests ++ all_of (line_test l.name) (drop l.item-index l.items) ≡ all_of (line_test l.name) l.items
