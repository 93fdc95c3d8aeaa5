-- What a step may track.
use Rattle.std.specs.Prelude.{ℕ, List, [], Some, None, find, slice_get, ◌≡◌, ◌==◌, ◌<◌, ◌++◌}
use Rattle.std.specs.List.{AllByRecursion}
use Rattle.addr_core.specs.declared.addr.Addr.{Addr}
use Rattle.plan_types.specs.declared.track.Track.{Track}
use Rattle.rule_engine.specs.Judging.{TrackSlots}
use Rattle.rule_engine.proofs.SlotLemmas.{AreSlots}
use Rattle.conn_model.specs.declared.event.ConnId.{ConnId}
use Rattle.conn_model.specs.declared.plain.FrontendRows.{FrontendRows}
use Rattle.conn_model.specs.declared.plain.Row.{Row}
use Rattle.conn_model.specs.declared.plain.TableState.{TableState}
use Rattle.conn_model.specs.Tables.{by_counter, open_tracks}
use Rattle.conn_rows.specs.Value.{RowsValue}
use Rattle.conn_rows.specs.Tables.{key_at}

-- a counter may track that: it is one of three and tracks nothing, and the key of the source can be listed
pub record IsPossible (tracks : List Track) (tables : List TableState) (own : List Track) (source : Addr) (counter : ℕ) (track : Track) : Type 0 where
  pub counter_is : track.counter ≡ counter
  pub below : counter < 3
  pub free : find (λ other. other.counter == counter) own ≡ None
  pub key : key_at tracks tables track.table source ≡ Some track.key

-- where open connections track those, and the connection itself those of them
abbrev pub ArePossible : List Track → List TableState → List Track → Addr → TrackSlots → Type 0
ArePossible tracks tables own source slots = AreSlots (IsPossible tracks tables own source) slots

-- so may a connection that comes in, which tracks nothing yet
abbrev pub CanTrackFirst : RowsValue → TrackSlots → Type 0
CanTrackFirst rows slots = (source : Addr) × ArePossible (open_tracks rows.frontends) rows.tables [] source slots

-- a connection that tracks those too
abbrev pub row_with : List Track → Row → Row
row_with tracks row = record row { tracks = by_counter (row.tracks ++ tracks) }

-- each row of that name has its tracks in the order of counters
abbrev pub AreSorted : List FrontendRows → ConnId → Type 0
AreSorted frontends id = (own : FrontendRows) → slice_get frontends id.frontend ≡ Some own → AllByRecursion (λ row. row.serial ≡ id.serial → by_counter row.tracks ≡ row.tracks) own.rows
