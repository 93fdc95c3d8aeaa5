use Rattle.addr_core.proofs.groups.+push_group.Given as goal

abbrev pub decreases-push_group : goal.decreases-push_group
decreases-push_group l = l.group
