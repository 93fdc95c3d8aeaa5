use Rattle.std.proofs.Common.{◌≡◌, take}
use Rattle.conf_tree.specs.Config.{acl_names}
use Rattle.conf_tree.proofs.names.acl_names.Given as goal

abbrev pub invariant-loop-item : goal.invariant-loop-item
invariant-loop-item l = l.names ≡ acl_names (take l.item-index l.items)
