use Rattle.std.proofs.Common.{◌≡◌, ◌+◌, ◌≤◌, ℕ, length}
use Rattle.addr_core.specs.declared.addr.Addr.{Addr}
use Rattle.slot_core.specs.Counts.{open_at}
use Rattle.plan_types.specs.declared.track.TableId.{TableId}
use Rattle.conn_model.specs.Counts.{total}
use Rattle.conn_tables.specs.Tables.{cur_in}
use Rattle.conn_rows.specs.Value.{row_on, row_slots}
use Rattle.conn_rows.proofs.frontend.FrontendState.end.Given as goal

abbrev pub invariant-loop-row : goal.invariant-loop-row
invariant-loop-row l = record {
  counted : (id : TableId) (key : Addr) → total (row_on id key) l.rows ≤ cur_in id key l.tables.tables;
  gone : (id : TableId) (key : Addr) → cur_in id key l.tables.tables + total (row_on id key) l.fn.self.rows ≡ cur_in id key l.fn.tables.tables + total (row_on id key) l.rows;
  slots : (place : ℕ) → total (row_slots place) l.rows ≤ open_at place l.kept.counts;
  back : (place : ℕ) → open_at place l.kept.counts + total (row_slots place) l.fn.self.rows ≡ open_at place l.fn.kept.counts + total (row_slots place) l.rows;
}

abbrev pub decreases-loop-row : goal.decreases-loop-row
decreases-loop-row l = length l.rows
