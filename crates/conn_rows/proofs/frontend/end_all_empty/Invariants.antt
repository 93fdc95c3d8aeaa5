use Rattle.std.proofs.Common.{◌≡◌, length, vec_len}
use Rattle.conn_model.specs.Counts.{total}
use Rattle.conn_rows.proofs.frontend.end_all_empty.Given as goal

abbrev pub invariant-loop-own : goal.invariant-loop-own
invariant-loop-own l = total (λ own. length own.rows) l.frontends.items ≡ 0

abbrev pub decreases-loop-own : goal.decreases-loop-own
decreases-loop-own l = vec_len l.frontends
