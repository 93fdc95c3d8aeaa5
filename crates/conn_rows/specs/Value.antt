-- What contracts see of the rows, and what is always true of them.
use Rattle.std.specs.Prelude.{ℕ, true, List, length, map, Option, Some, None, IsSome, ◌≡◌, ◌≤◌}
use Rattle.std.specs.List.{AllByRecursion}
use Rattle.std.specs.Option.{option_map_or}
use Rattle.keyed_list.specs.Entries.{IsFew}
use Rattle.addr_core.specs.declared.addr.Addr.{Addr}
use Rattle.proxy_types.specs.declared.server.ServerIdentity.{ServerIdentity}
use Rattle.slot_core.specs.declared.slots.SlotIx.{SlotIx}
use Rattle.slot_core.specs.Counts.{identity_at, open_at, slots_at}
use Rattle.proxy_types.specs.declared.limits.TheConstants.{MOST_SECTIONS}
use Rattle.plan_types.specs.declared.track.TableId.{TableId}
use Rattle.conn_model.specs.declared.plain.FrontendRows.{FrontendRows}
use Rattle.conn_model.specs.declared.plain.Plain.{Plain}
use Rattle.conn_model.specs.declared.plain.TableState.{TableState}
use Rattle.conn_model.specs.declared.plain.Version.{Version}
use Rattle.conn_model.specs.Answer.{version_at}
use Rattle.conn_model.specs.Counts.{server_of, total}
use Rattle.conn_model.specs.Tables.{is_listed_by, open_tracks, tables_alive}
use Rattle.conn_rows.specs.declared.row.StoredRow.{StoredRow}
use Rattle.conn_rows.specs.declared.rows.RowsState.{RowsState}
use Rattle.conn_tables.specs.declared.tables.StoredTable.{StoredTable}
use Rattle.conn_versions.specs.Judged.{judged_by, judged_of}
use Rattle.conn_versions.specs.Versions.{VersionsValue}
use Rattle.conn_rows.specs.Stored.{StoredFrontend, phase_of, plan_at, slot_of}
use Rattle.conn_tables.specs.Tables.{cur_in, plain_table, StoredTables}
use Rattle.conn_tables.specs.Tracks.{tracks_on}

pub record RowsValue : Type 0 where
  -- by the number of the frontend
  pub frontends : List FrontendRows
  -- by number, the newest last
  pub versions : List Version
  -- by incarnation, as they are at the moment up to which time has passed
  pub tables : List TableState
  pub clock : ℕ
  -- for how many more trackings each table has memory
  pub spare : ℕ
  -- the servers that were reported down
  pub down : List ServerIdentity

abbrev pub state_of : RowsValue → RowsState
state_of value = record { frontends = value.frontends; versions = value.versions; tables = value.tables; down = value.down }

-- what the rows keep of a plain state, before they have memory for trackings
abbrev pub rows_of : Plain → RowsValue
rows_of p = record { frontends = p.frontends; versions = p.versions; tables = p.tables; clock = p.clock; spare = 0; down = p.down }

-- the rows once time passed up to a moment
abbrev pub rows_passed : ℕ → RowsValue → RowsValue
rows_passed moment rows = record rows { tables = tables_alive moment (open_tracks rows.frontends) rows.tables; clock = moment }

-- the sum over the rows of all frontends
abbrev pub rows_total : (StoredRow → ℕ) → List StoredFrontend → ℕ
rows_total worth frontends = total (λ own. total worth own.rows) frontends

-- how many counters of a row track that key of the table
abbrev pub row_on : TableId → Addr → StoredRow → ℕ
row_on id key row = tracks_on id key row.tracks

-- there are not too many frontends, their rows are in memory, and each key of each table counts its trackings
pub record AreRows (frontends : List StoredFrontend) (tables : List StoredTable) : Type 0 where
  pub few : length frontends ≤ MOST_SECTIONS
  pub small : AllByRecursion (λ own. IsFew (length own.rows)) frontends
  pub counted : (id : TableId) (key : Addr) → cur_in id key tables ≡ rows_total (row_on id key) frontends

-- how many open connections of the server of a slot a row is: one, or none
abbrev pub row_slots : ℕ → StoredRow → ℕ
row_slots place row = option_map_or (slots_at place) (slot_of row.stage) 0

-- a slot counts for that server
abbrev pub CountsFor : VersionsValue → Option SlotIx → Option ServerIdentity → Type 0
CountsFor kept None server = Unit {0}
CountsFor kept (Some slot) server = identity_at slot.place kept.counts ≡ server

-- the slot of a row counts for the server that the connection was offered
abbrev pub HasSlot : VersionsValue → StoredRow → Type 0
HasSlot kept row = CountsFor kept (slot_of row.stage) (server_of (phase_of (plan_at kept.versions row.version) row.stage))

abbrev pub AllRows : (StoredRow → Type 0) → List StoredFrontend → Type 0
AllRows P frontends = AllByRecursion (λ own. AllByRecursion P own.rows) frontends

-- one for a row of the version of that number, and none for another
abbrev pub row_judged : ℕ → StoredRow → ℕ
row_judged number row = judged_by number row.version

-- each open connection of a server is a row, and counts for the server that it was offered; each version judges the rows
-- that are of it
pub record AreServed (frontends : List StoredFrontend) (kept : VersionsValue) : Type 0 where
  pub counted : (place : ℕ) → open_at place kept.counts ≡ rows_total (row_slots place) frontends
  pub judged : (number : ℕ) → IsSome (version_at kept.versions number) → judged_of kept number ≡ rows_total (row_judged number) frontends
  pub slots : AllRows (HasSlot kept) frontends

-- each table is listed by one of the versions
abbrev pub AreTablesListed : List Version → List TableState → Type 0
AreTablesListed versions tables = AllByRecursion (λ table. is_listed_by versions table ≡ true) tables

pub record IsRowsState (frontends : List StoredFrontend) (kept : VersionsValue) (tables : StoredTables) : Type 0 where
  pub rows : AreRows frontends tables.tables
  pub served : AreServed frontends kept
  pub listed : AreTablesListed kept.versions (map (plain_table tables.clock) tables.tables)
