-- What a list of rows ends as, where a `&mut` into one of them is returned.
use Rattle.std.specs.Prelude.{ℕ, List}
use Rattle.std.specs.Borrow.{Lends, Fml, MutBor}
use Rattle.conn_tables.specs.declared.tracking.Trackings.{Trackings}
use Rattle.conn_tables.specs.contracts.tracking.Trackings as trackings
use Rattle.conn_rows.specs.contracts.row.Stage as stages
use Rattle.conn_rows.specs.contracts.row_list.RowList as lists
use Rattle.conn_rows.specs.declared.row.Stage.{Stage}
use Rattle.conn_rows.specs.declared.row.StoredRow.{StoredRow}
use Rattle.conn_rows.specs.Stored.{at_stage, with_stored}

-- once the borrow r ends, the row of the serial has the last stage written through r
abbrev pub lends_stage : MutBor (List StoredRow) → ℕ → MutBor Stage → Fml
lends_stage rows serial r = Lends lists.the_row stages.the_row rows r (λ stage. with_stored serial (at_stage stage) rows.now)

abbrev pub at_tracks : Trackings → StoredRow → StoredRow
at_tracks tracks row = record row { tracks = tracks }

-- and the same of what it tracks
abbrev pub lends_tracks : MutBor (List StoredRow) → ℕ → MutBor Trackings → Fml
lends_tracks rows serial r = Lends lists.the_row trackings.the_row rows r (λ tracks. with_stored serial (at_tracks tracks) rows.now)
