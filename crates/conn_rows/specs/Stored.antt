-- What the rows keep, and the plain state that it says.
use Rattle.std.specs.Prelude.{ℕ, Bool, true, false, not, List, [], map, ◌≤◌, ◌==◌, if◌then◌else◌, find, Option, Some, None, option_and_then}
use Rattle.std.specs.List.{AllByRecursion}
use Rattle.std.specs.Option.{option_map}
use Rattle.plan_types.specs.declared.plan.Plan.{Plan}
use Rattle.addr_core.specs.PairValue.{PairValue}
use Rattle.pp_any.specs.declared.rest.Rest.{Rest}
use Rattle.pp_any.specs.declared.rest.Rest.TheVariants.{Read}
use Rattle.pp_any.specs.Rest.{IsRest}
use Rattle.slot_core.specs.declared.slots.SlotIx.{SlotIx}
use Rattle.conn_model.specs.declared.plain.Assignment.{Assignment}
use Rattle.conn_model.specs.declared.plain.Phase.{Phase}
use Rattle.conn_model.specs.declared.plain.Phase.TheVariants as phases
use Rattle.conn_model.specs.declared.plain.Row.{Row}
use Rattle.conn_model.specs.declared.plain.FrontendRows.{FrontendRows}
use Rattle.conn_model.specs.declared.plain.Version.{Version}
use Rattle.conn_model.specs.Words.{Rise}
use Rattle.conn_model.specs.Answer.{version_at}
use Rattle.conn_model.specs.History.{identity_of}
use Rattle.conn_rows.specs.declared.row.ServerChoice.{ServerChoice}
use Rattle.conn_rows.specs.declared.row.Stage.{Stage}
use Rattle.conn_rows.specs.declared.row.Stage.TheVariants.{Waiting, Offered}
use Rattle.conn_rows.specs.declared.row.StoredRow.{StoredRow}
use Rattle.conn_tables.specs.declared.tracking.Tracking.{Tracking}
use Rattle.conn_tables.specs.Tracks.{at_counter, no_trackings, plain_tracks}

pub record StoredFrontend : Type 0 where
  pub name : List ℕ
  pub serial : ℕ
  pub rows : List StoredRow

-- the plan of the version of that number
abbrev pub plan_at : List Version → ℕ → Option Plan
plan_at versions number = option_map (λ version. version.plan) (version_at versions number)

-- what a seat is by a plan: the plan has the names
-- after servers of these lines were out of reach
abbrev pub assignment_in : Option Plan → ServerChoice → List ℕ → Assignment
assignment_in plan seat failed = record { server = identity_of plan seat.line seat.server seat.to; line = seat.line; judged = seat.judged; failed = failed }

-- a connection that was offered a server, which took it or did not yet
abbrev pub phase_with : Bool → Assignment → Phase
phase_with false assignment = phases.Offered assignment
phase_with true assignment = phases.Up assignment

abbrev pub phase_of : Option Plan → Stage → Phase
phase_of plan (Waiting rest) = phases.Waiting rest
phase_of plan (Offered held) = phase_with held.is_up (assignment_in plan held.seat held.failed.items)

abbrev pub plain_row : List Version → StoredRow → Row
plain_row versions row = record {
  serial = row.serial;
  version = row.version;
  real = row.real;
  accepted = row.accepted;
  phase = phase_of (plan_at versions row.version) row.stage;
  tracks = plain_tracks row.tracks;
}

abbrev pub plain_frontend : List Version → StoredFrontend → FrontendRows
plain_frontend versions own = record { name = own.name; serial = own.serial; rows = map (plain_row versions) own.rows }

-- where it waits, its parser was fed some bytes
abbrev pub IsHeld : Stage → Type 0
IsHeld (Waiting rest) = (b : List ℕ) × IsRest b rest
IsHeld (Offered held) = Unit {0}

-- the serials rise, and none is above the last that was given out
pub record AreOpen (last : ℕ) (rows : List StoredRow) : Type 0 where
  pub rise : Rise (λ row. row.serial) rows
  pub given : AllByRecursion (λ row. row.serial ≤ last) rows
  pub held : AllByRecursion (λ row. IsHeld row.stage) rows

abbrev pub has_serial : ℕ → StoredRow → Bool
has_serial serial row = row.serial == serial

-- the row of a serial changed
abbrev pub with_stored : ℕ → (StoredRow → StoredRow) → List StoredRow → List StoredRow
with_stored serial change rows = map (λ row. if row.serial == serial then change row else row) rows

abbrev pub at_stage : Stage → StoredRow → StoredRow
at_stage stage row = record row { stage = stage }

-- a row of which one counter more tracks
abbrev pub stored_tracking : ℕ → Tracking → StoredRow → StoredRow
stored_tracking counter tracking row = record row { tracks = at_counter counter tracking row.tracks }

abbrev pub rest_within : Stage → Option Rest
rest_within (Waiting rest) = Some rest
rest_within (Offered held) = None

-- what the connection of a serial holds of its header, where it waits
abbrev pub rest_kept : ℕ → List StoredRow → Option Rest
rest_kept serial rows = option_and_then (λ row. rest_within row.stage) (find (has_serial serial) rows)

-- a connection that waits, of which no byte came yet, and that tracks nothing
abbrev pub stored_arrival : ℕ → ℕ → PairValue → ℕ → StoredRow
stored_arrival serial version real accepted = record { serial = serial; version = version; real = real; accepted = accepted; stage = Waiting (Read (record { items = [] })); tracks = no_trackings }

abbrev pub waits : Stage → Bool
waits (Waiting rest) = true
waits (Offered held) = false

-- it was offered a server, which did not take it yet
abbrev pub awaits : Stage → Bool
awaits (Waiting rest) = false
awaits (Offered held) = not held.is_up

-- the open connection of a server that it is
abbrev pub slot_of : Stage → Option SlotIx
slot_of (Waiting rest) = None
slot_of (Offered held) = Some held.slot

-- the line of the server that it was offered
abbrev pub line_of : Stage → Option ℕ
line_of (Waiting rest) = None
line_of (Offered held) = Some held.seat.line

-- the row of a serial in a frontend, if there are both
abbrev pub stored_in : ℕ → Option StoredFrontend → Option StoredRow
stored_in serial None = None
stored_in serial (Some own) = find (has_serial serial) own.rows
