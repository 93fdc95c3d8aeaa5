use Rattle.std.proofs.Common.{vec_len}
use Rattle.desk_core.proofs.bounding.+bound.Given as goal

abbrev pub decreases-bound : goal.decreases-bound
decreases-bound g l = vec_len l.left.now
