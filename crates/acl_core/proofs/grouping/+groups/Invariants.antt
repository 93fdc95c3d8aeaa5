use Rattle.std.proofs.Common.{length}
use Rattle.acl_core.proofs.grouping.+groups.Given as goal

abbrev pub decreases-groups : goal.decreases-groups
decreases-groups l = length l.tokens.now
