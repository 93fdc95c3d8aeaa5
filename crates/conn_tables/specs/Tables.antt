-- The tables that are kept.
use Rattle.std.specs.Prelude.{ℕ, Bool, false, List, [], ◌∷◌, find, map, Option, option_and_then, ◌≡◌, ◌==◌, ◌≤◌, ◌<◌}
use Rattle.std.specs.List.{list_any, enumerate_from, AllByRecursion}
use Rattle.std.specs.Option.{option_map_or}
use Rattle.addr_core.specs.declared.addr.Addr.{Addr}
use Rattle.stick_core.specs.Entries.{cur_of}
use Rattle.stick_core.specs.Listing.{passed, IsSound}
use Rattle.stick_core.specs.PlainEntries.{plain, tracked_key}
use Rattle.plan_types.specs.declared.plan.Table.{Table}
use Rattle.plan_types.specs.declared.track.TableId.{TableId}
use Rattle.plan_types.specs.declared.track.Track.{Track}
use Rattle.conn_model.specs.declared.plain.TableState.{TableState}
use Rattle.conn_model.specs.declared.plain.Version.{Version}
use Rattle.conn_model.specs.Tables.{next_id, same_id, table_at, trackers}
use Rattle.conn_tables.specs.declared.tables.StoredTable.{StoredTable}

-- what contracts see of the tables
pub record StoredTables : Type 0 where
  pub tables : List StoredTable
  -- the moment up to which time has passed
  pub clock : ℕ
  -- for how many more trackings each has memory
  pub spare : ℕ

-- as it is at a moment
abbrev pub plain_table : ℕ → StoredTable → TableState
plain_table moment stored = record { id = stored.id; table = stored.table; entries = plain (passed moment stored.entries).entries }

abbrev pub is_table : TableId → StoredTable → Bool
is_table id stored = same_id stored.id id

-- how many track the key of the table of that incarnation, 0 where there is none
abbrev pub cur_in : TableId → Addr → List StoredTable → ℕ
cur_in id key tables = option_map_or (λ stored. cur_of key stored.entries.entries) (find (is_table id) tables) 0

-- each key of each table is tracked by so many
abbrev pub AreCounted : List Track → List StoredTable → Type 0
AreCounted tracks tables = (id : TableId) (key : Addr) → cur_in id key tables ≡ trackers tracks id key

-- it is as its line says, was touched up to a moment, and has memory for so many more trackings
pub record IsStored (moment spare : ℕ) (stored : StoredTable) : Type 0 where
  pub kind : stored.entries.kind ≡ stored.table.kind
  pub size : stored.entries.size ≡ stored.table.size
  pub stores : stored.entries.stores ≡ stored.table.stores
  pub expire : stored.entries.expire ≡ stored.table.expire
  pub past : stored.entries.clock ≤ moment
  pub sound : IsSound stored.entries.size stored.entries.entries
  pub room : spare ≤ stored.entries.spare

-- no two are of one incarnation
abbrev pub TablesDiffer : List StoredTable → Type 0
TablesDiffer [] = Unit {0}
TablesDiffer (stored ∷ tables) = AllByRecursion (λ other. same_id other.id stored.id ≡ false) tables × TablesDiffer tables

pub record AreTables (moment spare : ℕ) (tables : List StoredTable) : Type 0 where
  pub differ : TablesDiffer tables
  pub each : AllByRecursion (IsStored moment spare) tables

-- The key under which a table tracks an address, if it does.

abbrev pub table_key : List Track → Addr → TableState → Option Addr
table_key tracks addr table = tracked_key (trackers tracks table.id) table.table.kind table.table.size table.entries addr

-- of the table of that incarnation, if there is one
abbrev pub key_at : List Track → List TableState → TableId → Addr → Option Addr
key_at tracks tables id addr = option_and_then (table_key tracks addr) (table_at tables id)

-- Versions.

-- the version lists the table of that incarnation
abbrev pub is_id_listed : TableId → Version → Bool
is_id_listed id version = list_any (same_id id) version.tables

-- some version does
abbrev pub is_listed_in : List Version → TableId → Bool
is_listed_in versions id = list_any (is_id_listed id) versions

-- the incarnations of the tables of the version of that number, which follows one that has those tables: all of them began
-- earlier
pub record AreNextIds (version : ℕ) (before : List (Table × TableId)) (tables : List Table) (ids : List TableId) : Type 0 where
  pub next : ids ≡ map (next_id version before) (enumerate_from 0 tables)
  pub earlier : AllByRecursion (λ pair. pair.1.version < version) before

-- the table begins with the version of that number
abbrev pub is_begun : ℕ → Table × TableId → Bool
is_begun version (table, id) = id.version == version

abbrev pub begun_table : Table × TableId → TableState
begun_table (table, id) = record { id = id; table = table; entries = [] }

-- Memory.

-- the table with memory for some more trackings
pub record IsGrown (old grown : StoredTable) : Type 0 where
  pub same : grown ≡ record old { entries = record old.entries { spare = grown.entries.spare } }
  pub spare : old.entries.spare ≤ grown.entries.spare

abbrev pub AreGrown : List StoredTable → List StoredTable → Type 0
AreGrown [] [] = Unit {0}
AreGrown [] (grown ∷ more) = ⊥
AreGrown (old ∷ tables) [] = ⊥
AreGrown (old ∷ tables) (grown ∷ more) = IsGrown old grown × AreGrown tables more
