use Rattle.std.proofs.Common.{vec_len}
use Rattle.desk_core.proofs.recounting.+recount.Given as goal

abbrev pub decreases-recount : goal.decreases-recount
decreases-recount g l = vec_len l.passes.now
