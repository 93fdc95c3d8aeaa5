use Rattle.std.proofs.Common.{◌≡◌, ◌++◌, drop, map}
use Rattle.plan_core.specs.Fields.{acl_of, acls_in}
use Rattle.plan_core.proofs.acls.acls_in.Given as goal

abbrev pub invariant-loop-name : goal.invariant-loop-name
invariant-loop-name l = l.acls ++ map (acl_of l.items) (drop l.name-index l.name-items) ≡ acls_in l.items
