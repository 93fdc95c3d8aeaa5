-- What a step makes of the open connections.
use Rattle.std.specs.Prelude.{ℕ, Bool, true, false, List, [], ◌∷◌, ◌++◌, Some, IsSome, filter, map, slice_get, ◌≡◌, ◌+◌, ◌<◌, ◌≤◌, ◌^◌, if◌then◌else◌}
use Rattle.std.specs.List.{AllByRecursion}
use Rattle.plan_types.specs.declared.plan.Frontend.{Frontend}
use Rattle.plan_types.specs.declared.track.Track.{Track}
use Rattle.rule_engine.specs.Meaning.{present}
use Rattle.conn_model.specs.declared.event.ConnId.{ConnId}
use Rattle.conn_model.specs.declared.event.OwnedEvent.{OwnedEvent}
use Rattle.conn_model.specs.declared.reply.Reply.{Reply}
use Rattle.conn_model.specs.declared.plain.Row.{Row}
use Rattle.conn_model.specs.declared.plain.FrontendRows.{FrontendRows}
use Rattle.conn_model.specs.declared.plain.TableState.{TableState}
use Rattle.conn_model.specs.declared.plain.Version.{Version}
use Rattle.conn_model.specs.Answer.{frontend_in, new_row, rest_in, row_at, version_at}
use Rattle.conn_model.specs.History.{is_last, phase_by, with_offer}
use Rattle.conn_model.specs.Tables.{by_counter, is_listed_by, tracks_at, without_tracks}
use Rattle.conn_model.specs.Changes.{with_conn, without_conn}
use Rattle.conn_rows.specs.Changes.{row_offered}
use Rattle.conn_rows.specs.Needed.{versions_needed}
use Rattle.conn_rows.specs.Stored.{plan_at}
use Rattle.conn_rows.specs.Value.{RowsValue}
use Rattle.conn_rows.specs.Versions.{HasServer}
use Rattle.conn_core.specs.Tracking.{row_with}
use Rattle.conn_core.specs.declared.entering.SessionStart.{SessionStart}
use Rattle.conn_core.specs.declared.outcome.TrackedOutcome.{TrackedOutcome}
use Rattle.conn_core.specs.declared.outcome.Outcome.{Outcome}
use Rattle.conn_core.specs.declared.outcome.Outcome.TheVariants.{Wait, Offer, Refuse}

-- a connection comes in: its frontend is there and has that serial to give out
pub record IsComing (frontends : List FrontendRows) (id : ConnId) (own : FrontendRows) : Type 0 where
  pub there : slice_get frontends id.frontend ≡ Some own
  pub next : id.serial ≡ own.serial + 1
  pub fits : own.serial + 1 < 2 ^ 64
  pub given : AllByRecursion (λ row. row.serial ≤ own.serial) own.rows

-- a connection that came in and tracks those
abbrev pub newcomer : SessionStart → List Track → ℕ → Row
newcomer arrival tracks serial = row_with tracks (new_row serial arrival.version arrival.real arrival.accepted)

-- its frontend
abbrev pub with_newcomer : SessionStart → List Track → FrontendRows → FrontendRows
with_newcomer arrival tracks own = record own { serial = own.serial + 1; rows = own.rows ++ newcomer arrival tracks (own.serial + 1) ∷ [] }

-- the row that a decision leaves of a connection
abbrev pub entered_row : List Version → SessionStart → List Track → Outcome → ℕ → List Row
entered_row versions arrival tracks Wait serial = newcomer arrival tracks serial ∷ []
entered_row versions arrival tracks (Offer offer) serial = row_offered versions offer.seat (newcomer arrival tracks serial) ∷ []
entered_row versions arrival tracks (Refuse cause) serial = []

-- its frontend
abbrev pub entered : List Version → SessionStart → TrackedOutcome → FrontendRows → FrontendRows
entered versions arrival decision own =
    record own { serial = own.serial + 1; rows = own.rows ++ entered_row versions arrival (present decision.tracks) decision.outcome (own.serial + 1) }

-- a connection to which that is said
abbrev pub row_by : List Version → OwnedEvent → Reply → Row → Row
row_by versions event reply row = record row {
  phase = phase_by (plan_at versions row.version) event reply.said row.phase;
  tracks = by_counter (row.tracks ++ reply.tracks.items);
}

-- the open connections once that is said to one of them
abbrev pub spoken : List Version → OwnedEvent → ConnId → Reply → List FrontendRows → List FrontendRows
spoken versions event id reply frontends = if is_last reply.said then without_conn id frontends else with_conn id (row_by versions event reply) frontends

-- what judges a connection: its frontend, the version, and the frontend in it
pub record Judge (frontends : List FrontendRows) (versions : List Version) (id : ConnId) (number : ℕ) : Type 0 where
  pub own : FrontendRows
  pub version : Version
  pub frontend : Frontend
  pub there : slice_get frontends id.frontend ≡ Some own
  pub kept : version_at versions number ≡ Some version
  pub found : frontend_in version.plan own.name ≡ Some frontend

-- the connection waits for its header, and the version of that number judges it
pub record IsJudged (frontends : List FrontendRows) (id : ConnId) (version : ℕ) : Type 0 where
  pub row : Row
  pub there : row_at frontends id ≡ Some row
  pub waits : IsSome (rest_in row.phase)
  pub judged : row.version ≡ version

-- a server that is offered is one of the version of that number
abbrev pub CanOffer : List Version → ℕ → Outcome → Type 0
CanOffer versions version Wait = Unit {0}
CanOffer versions version (Offer offer) = (there : HasServer versions version offer.seat.line offer.seat.server) × (there.server.to ≡ offer.seat.to)
CanOffer versions version (Refuse cause) = Unit {0}

-- the open connections once one of them that waited has that outcome
abbrev pub settled : List Version → ConnId → Outcome → List FrontendRows → List FrontendRows
settled versions id Wait frontends = frontends
settled versions id (Offer offer) frontends = with_conn id (row_offered versions offer.seat) frontends
settled versions id (Refuse cause) frontends = without_conn id frontends

-- the versions, where that one judges it
abbrev pub settled_versions : ℕ → Outcome → List Version → List Version
settled_versions version Wait versions = versions
settled_versions version (Offer offer) versions = map (with_offer version offer.seat.line offer.seat.server) versions
settled_versions version (Refuse cause) versions = versions

-- and the tables, where that is at a moment
abbrev pub settled_tables : ℕ → ConnId → Outcome → List FrontendRows → List TableState → List TableState
settled_tables moment id Wait frontends tables = tables
settled_tables moment id (Offer offer) frontends tables = tables
settled_tables moment id (Refuse cause) frontends tables = without_tracks moment (tracks_at frontends id) tables

-- the rows once a connection ended, if one did: without the versions that are not needed, and the tables that no other lists
abbrev pub forgotten : Bool → RowsValue → RowsValue
forgotten true rows = record rows {
  versions = versions_needed rows.frontends rows.versions;
  tables = filter (is_listed_by (versions_needed rows.frontends rows.versions)) rows.tables;
}
forgotten false rows = rows
