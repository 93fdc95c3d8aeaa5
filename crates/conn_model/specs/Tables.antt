-- Tables: how the entries of each change as connections track keys, and end.
use Rattle.std.specs.Prelude.{ℕ, Bool, true, false, List, [], ◌∷◌, ◌++◌, map, filter, find, flat_map, length, zip, Option, Some, None, is_none, option_map, ◌≤◌, ◌≡◌, ◌==◌, ◌&&◌, if◌then◌else◌}
use Rattle.std.specs.List.{list_any, enumerate_from, AllByRecursion}
use Rattle.std.specs.Option.{option_map_or}
use Rattle.std.specs.Str.{bytes_eq}
use Rattle.addr_core.specs.declared.addr.Addr.{Addr}
use Rattle.proxy_types.specs.declared.table.KeyType.{KeyType}
use Rattle.proxy_types.specs.declared.table.KeyType.TheVariants.{Ip, Ipv6}
use Rattle.proxy_types.specs.declared.table.Stores.{Stores}
use Rattle.addr_core.specs.Same.{same_addr}
use Rattle.stick_core.specs.PlainEntries.{alive, with_tracking, touched, count_at, is_in, trackers_at, KeysDiffer}
use Rattle.plan_types.specs.declared.plan.Section.{Section}
use Rattle.plan_types.specs.declared.plan.Table.{Table}
use Rattle.plan_types.specs.Tables.{is_frontend_section}
use Rattle.config_core.specs.Binds.{same_flag}
use Rattle.plan_types.specs.declared.track.TableId.{TableId}
use Rattle.plan_types.specs.declared.track.Track.{Track}
use Rattle.conn_model.specs.declared.ask.Counts.{Counts}
use Rattle.conn_model.specs.declared.event.ConnId.{ConnId}
use Rattle.conn_model.specs.declared.plain.FrontendRows.{FrontendRows}
use Rattle.conn_model.specs.declared.plain.TableState.{TableState}
use Rattle.conn_model.specs.declared.plain.Version.{Version}
use Rattle.conn_model.specs.Words.{row_at}

-- the same incarnation of a table
abbrev pub same_id : TableId → TableId → Bool
same_id a b = (a.version == b.version) && (a.position == b.position)

-- the table of that incarnation
abbrev pub table_at : List TableState → TableId → Option TableState
table_at tables id = find (λ table. same_id table.id id) tables

-- Who tracks a key.

-- all that open connections track
abbrev pub tracks_in : FrontendRows → List Track
tracks_in own = flat_map (λ row. row.tracks) own.rows

abbrev pub open_tracks : List FrontendRows → List Track
open_tracks frontends = flat_map tracks_in frontends

-- what the connection of that name tracks
abbrev pub tracks_at : List FrontendRows → ConnId → List Track
tracks_at frontends id = option_map_or (λ row. row.tracks) (row_at frontends id) []

-- in the order of counters
abbrev pub by_counter : List Track → List Track
by_counter tracks = filter (λ track. track.counter == 0) tracks ++ filter (λ track. track.counter == 1) tracks ++ filter (λ track. track.counter == 2) tracks

-- the track is of that key of the table
abbrev pub is_of : TableId → Addr → Track → Bool
is_of id key track = same_id track.table id && same_addr track.key key

-- how many of the tracks are of that key of the table
abbrev pub trackers : List Track → TableId → Addr → ℕ
trackers tracks id key = length (filter (is_of id key) tracks)

-- how many open connections track an address in the table, and how often it was tracked
abbrev pub entry_counts : List Track → Addr → TableState → Counts
entry_counts tracks addr table = record {
  cur = trackers_at (trackers tracks table.id) table.table.kind addr;
  cnt = count_at table.table.kind table.entries addr;
}

-- Time passes: an entry that nobody tracks is gone so long after its last touch as the table says.

abbrev pub table_alive : ℕ → List Track → TableState → TableState
table_alive moment tracks table = record table { entries = alive (trackers tracks table.id) table.table.expire moment table.entries }

-- the tables as they are at a moment, where those are tracked
abbrev pub tables_alive : ℕ → List Track → List TableState → List TableState
tables_alive moment tracks tables = map (table_alive moment tracks) tables

-- A key is tracked at a moment: its table counts it once more, and from a full table the entry that was touched longest
-- ago of those that nobody tracks is gone.

abbrev pub table_with : ℕ → List Track → Track → TableState → TableState
table_with moment tracks track table =
    if same_id table.id track.table
    then record table { entries = with_tracking moment (trackers tracks table.id) table.table.size track.key table.entries }
    else table

-- the tables once a key is tracked, where those were tracked before
abbrev pub with_track : ℕ → List Track → Track → List TableState → List TableState
with_track moment tracks track tables = map (table_with moment tracks track) tables

-- and several, one after the other
abbrev pub with_tracks : ℕ → List Track → List Track → List TableState → List TableState
with_tracks moment tracks [] tables = tables
with_tracks moment tracks (new ∷ rest) tables = with_tracks moment (tracks ++ new ∷ []) rest (with_track moment tracks new tables)

-- A tracking ends at a moment: the key is at the end of the table's entries.

abbrev pub table_without : ℕ → Track → TableState → TableState
table_without moment track table = if same_id table.id track.table then record table { entries = touched moment track.key table.entries } else table

abbrev pub without_track : ℕ → Track → List TableState → List TableState
without_track moment track tables = map (table_without moment track) tables

-- several, one after the other
abbrev pub without_tracks : ℕ → List Track → List TableState → List TableState
without_tracks moment [] tables = tables
without_tracks moment (track ∷ rest) tables = without_tracks moment rest (without_track moment track tables)

-- Tables that begin with a version, each with its position in the text.

abbrev pub new_id : ℕ → ℕ × Table → TableId
new_id version (position, table) = record { version = version; position = position }

abbrev pub new_table : ℕ → ℕ × Table → TableState
new_table version (position, table) = record { id = record { version = version; position = position }; table = table; entries = [] }

-- Tables of a version that follows another.

abbrev pub same_section : Section → Section → Bool
same_section a b = same_flag (is_frontend_section a) (is_frontend_section b)

abbrev pub same_kind : KeyType → KeyType → Bool
same_kind Ip Ip = true
same_kind Ip Ipv6 = false
same_kind Ipv6 Ip = false
same_kind Ipv6 Ipv6 = true

abbrev pub same_stores : Stores → Stores → Bool
same_stores a b = same_flag a.cur b.cur && same_flag a.cnt b.cnt

-- two tables that are written the same: the kind and the name of the section, the type, the size, the stored kinds and
-- how long an entry is kept
abbrev pub same_table : Table → Table → Bool
same_table a b = same_section a.section b.section && bytes_eq a.name b.name && same_kind a.kind b.kind && (a.size == b.size) && same_stores a.stores b.stores && (a.expire == b.expire)

-- the tables of a version, each with its incarnation
abbrev pub written_tables : Option Version → List (Table × TableId)
written_tables None = []
written_tables (Some version) = zip version.plan.tables version.tables

-- the incarnation of the table before that is written the same
abbrev pub same_before : List (Table × TableId) → Table → Option TableId
same_before before table = option_map (λ pair. pair.1) (find (λ pair. same_table pair.0 table) before)

-- a table keeps that incarnation; where there is none, it begins with the version
abbrev pub next_id : ℕ → List (Table × TableId) → ℕ × Table → TableId
next_id version before (position, table) = option_map_or (λ id. id) (same_before before table) (record { version = version; position = position })

abbrev pub is_new : List (Table × TableId) → ℕ × Table → Bool
is_new before (position, table) = is_none (same_before before table)

-- the tables that begin with a version, where those were the tables before
abbrev pub new_tables : ℕ → List (Table × TableId) → List Table → List TableState
new_tables version before tables = map (new_table version) (filter (is_new before) (enumerate_from 0 tables))

-- some version lists the table
abbrev pub is_listed_by : List Version → TableState → Bool
is_listed_by versions table = list_any (λ version. list_any (same_id table.id) version.tables) versions

-- What holds of tables.

-- no two are of one incarnation
abbrev pub IncarnationsDiffer : List TableState → Type 0
IncarnationsDiffer [] = Unit {0}
IncarnationsDiffer (table ∷ tables) = AllByRecursion (λ other. same_id other.id table.id ≡ false) tables × IncarnationsDiffer tables

-- the keys of the entries differ, and there are no more entries than the size
pub record IsTableWell (table : TableState) : Type 0 where
  pub keys : KeysDiffer table.entries
  pub fits : length table.entries ≤ table.table.size

-- the key of the track is in the entries of its table
abbrev pub is_listed : List TableState → Track → Bool
is_listed tables track = option_map_or (λ table. is_in track.key table.entries) (table_at tables track.table) false

-- the table of the track is one of those incarnations, and has the key
pub record IsTrackListed (ids : List TableId) (tables : List TableState) (track : Track) : Type 0 where
  pub table : list_any (same_id track.table) ids ≡ true
  pub key : is_listed tables track ≡ true
