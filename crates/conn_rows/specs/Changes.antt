-- What the calls make of an open connection as it is stored.
use Rattle.std.specs.Prelude.{ℕ, true, false, Option, List, [], ◌∷◌, ◌++◌, ◌<◌, length}
use Rattle.pp_any.specs.Status.{Status, Wait, Whole, Fault}
use Rattle.plan_types.specs.declared.plan.Plan.{Plan}
use Rattle.plan_types.specs.declared.plan.TheConstants.{MOST_MOVES}
use Rattle.slot_core.specs.declared.slots.SlotIx.{SlotIx}
use Rattle.conn_model.specs.declared.plain.Phase.{Phase}
use Rattle.conn_model.specs.declared.plain.Phase.TheVariants.{Waiting, Offered, Up}
use Rattle.conn_model.specs.declared.plain.Row.{Row}
use Rattle.conn_model.specs.declared.plain.Version.{Version}
use Rattle.conn_model.specs.Changes.{held_after}
use Rattle.conn_rows.specs.declared.row.ServerChoice.{ServerChoice}
use Rattle.conn_rows.specs.declared.row.Stage.{Stage}
use Rattle.conn_rows.specs.declared.row.Stage.TheVariants as stages
use Rattle.conn_rows.specs.declared.row.StoredRow.{StoredRow}
use Rattle.conn_rows.specs.declared.frontend.HeaderStatus.{HeaderStatus}
use Rattle.conn_rows.specs.declared.frontend.HeaderStatus.TheVariants as headers
use Rattle.conn_rows.specs.Stored.{assignment_in, plan_at}

-- A piece.

abbrev pub status_of : HeaderStatus → Status
status_of headers.Wait = Wait
status_of (headers.Whole meaning used) = Whole used meaning
status_of (headers.Bad fault used) = Fault fault used

abbrev pub used_by : HeaderStatus → ℕ
used_by headers.Wait = 0
used_by (headers.Whole meaning used) = used
used_by (headers.Bad fault used) = used

abbrev pub stage_fed : List ℕ → Stage → Stage
stage_fed piece (stages.Waiting rest) = stages.Waiting (held_after rest piece)
stage_fed piece (stages.Offered held) = stages.Offered held

abbrev pub stored_fed : List ℕ → StoredRow → StoredRow
stored_fed piece row = record row { stage = stage_fed piece row.stage }

-- An offer.

-- a connection that is offered a server of its version
abbrev pub row_offered : List Version → ServerChoice → Row → Row
row_offered versions seat row = record row { phase = Offered (assignment_in (plan_at versions row.version) seat []) }

-- a connection that is offered another server of its version
abbrev pub phase_moved : Option Plan → ServerChoice → Phase → Phase
phase_moved plan seat (Waiting rest) = Waiting rest
phase_moved plan seat (Offered before) = Offered (assignment_in plan seat (before.failed ++ before.line ∷ []))
phase_moved plan seat (Up before) = Offered (assignment_in plan seat (before.failed ++ before.line ∷ []))

abbrev pub row_moved : List Version → ServerChoice → Row → Row
row_moved versions seat row = record row { phase = phase_moved (plan_at versions row.version) seat row.phase }

-- it was offered a server that did not take it, and fewer than `MOST_MOVES` were out of reach for it before
abbrev pub IsMovable : Phase → Type 0
IsMovable (Waiting rest) = ⊥
IsMovable (Offered before) = length before.failed < MOST_MOVES
IsMovable (Up before) = ⊥

abbrev pub stage_offered : ServerChoice → SlotIx → Stage
stage_offered seat slot = stages.Offered (record { seat = seat; slot = slot; failed = record { items = [] }; is_up = false })

-- a connection that is offered another server: the line of the one that it had is the last of those that were out of reach
abbrev pub stage_moved : ServerChoice → SlotIx → Stage → Stage
stage_moved seat slot (stages.Waiting rest) = stages.Waiting rest
stage_moved seat slot (stages.Offered held) =
    stages.Offered (record { seat = seat; slot = slot; failed = record { items = held.failed.items ++ held.seat.line ∷ [] }; is_up = false })

abbrev pub stored_moved : ServerChoice → SlotIx → StoredRow → StoredRow
stored_moved seat slot row = record row { stage = stage_moved seat slot row.stage }

-- it was offered a server, and has room for the line of that one among those that were out of reach
abbrev pub CanMove : Stage → Type 0
CanMove (stages.Waiting rest) = ⊥
CanMove (stages.Offered held) = length held.failed.items < MOST_MOVES

abbrev pub stage_up : Stage → Stage
stage_up (stages.Waiting rest) = stages.Waiting rest
stage_up (stages.Offered held) = stages.Offered (record held { is_up = true })

abbrev pub stored_up : StoredRow → StoredRow
stored_up row = record row { stage = stage_up row.stage }
