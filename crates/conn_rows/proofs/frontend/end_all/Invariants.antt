use Rattle.std.proofs.Common.{◌≤◌, ℕ, vec_len}
use Rattle.slot_core.specs.Counts.{open_at}
use Rattle.addr_core.specs.declared.addr.Addr.{Addr}
use Rattle.plan_types.specs.declared.track.TableId.{TableId}
use Rattle.conn_tables.specs.Tables.{cur_in}
use Rattle.conn_rows.specs.Value.{row_on, row_slots, rows_total}
use Rattle.conn_rows.proofs.frontend.end_all.Given as goal

abbrev pub invariant-loop-own : goal.invariant-loop-own
invariant-loop-own l = record {
  tables : (id : TableId) (key : Addr) → rows_total (row_on id key) l.frontends.items ≤ cur_in id key l.tables.tables;
  slots : (place : ℕ) → rows_total (row_slots place) l.frontends.items ≤ open_at place l.kept.counts;
}

abbrev pub decreases-loop-own : goal.decreases-loop-own
decreases-loop-own l = vec_len l.frontends
