-- Changes of open connections, as the calls make them.
use Rattle.std.specs.Prelude.{ℕ, not, List, [], ◌∷◌, filter, slice_get, slice_set, ◌++◌, ◌+◌, ◌==◌, Option, option_and_then}
use Rattle.std.specs.Option.{option_map_or}
use Rattle.addr_core.specs.PairValue.{PairValue}
use Rattle.pp_any.specs.declared.rest.Rest.{Rest}
use Rattle.pp_any.specs.declared.rest.Rest.TheVariants.{Read}
use Rattle.pp_any.specs.Status.{Status, Wait, Whole, Fault}
use Rattle.pp_any.specs.NextPiece.{rest_on, status_on}
use Rattle.plan_types.specs.declared.track.Track.{Track}
use Rattle.conn_model.specs.declared.event.ConnId.{ConnId}
use Rattle.conn_model.specs.declared.plain.FrontendRows.{FrontendRows}
use Rattle.conn_model.specs.declared.plain.Phase.{Phase}
use Rattle.conn_model.specs.declared.plain.Phase.TheVariants.{Waiting, Offered, Up}
use Rattle.conn_model.specs.declared.plain.Row.{Row}
use Rattle.conn_model.specs.Words.{row_at}
use Rattle.conn_model.specs.Counts.{change_row}
use Rattle.conn_model.specs.Tables.{by_counter}
use Rattle.conn_model.specs.Answer.{new_row, rest_in}
use Rattle.conn_model.specs.History.{phase_up}

-- the item of that number changed, if there is one
abbrev pub with_item : {X : Type 0} → ℕ → (X → X) → List X → List X
with_item n change xs = option_map_or (λ x. slice_set xs n (change x)) (slice_get xs n) xs

-- the row of a serial changed
abbrev pub with_row : ℕ → (Row → Row) → FrontendRows → FrontendRows
with_row serial change own = record own { rows = change_row serial change own.rows }

-- the connection of that name changed
abbrev pub with_conn : ConnId → (Row → Row) → List FrontendRows → List FrontendRows
with_conn id change frontends = with_item id.frontend (with_row id.serial change) frontends

abbrev pub without_row : ℕ → FrontendRows → FrontendRows
without_row serial own = record own { rows = filter (λ row. not (row.serial == serial)) own.rows }

-- the connection of that name ended
abbrev pub without_conn : ConnId → List FrontendRows → List FrontendRows
without_conn id frontends = with_item id.frontend (without_row id.serial) frontends

-- the next serial given out to a connection that is refused
abbrev pub with_refusal : FrontendRows → FrontendRows
with_refusal own = record own { serial = own.serial + 1 }

-- the next serial given out to a connection that waits from now on
abbrev pub with_arrival : ℕ → PairValue → ℕ → FrontendRows → FrontendRows
with_arrival version real accepted own = record own { serial = own.serial + 1; rows = own.rows ++ new_row (own.serial + 1) version real accepted ∷ [] }

-- what is held of the header of the connection of that name, where it waits for one
abbrev pub rest_at : List FrontendRows → ConnId → Option Rest
rest_at frontends id = option_and_then (λ row. rest_in row.phase) (row_at frontends id)

-- what is held after a piece with that status: nothing, once something is decided
abbrev pub held_under : Status → Rest → Rest
held_under Wait rest = rest
held_under (Whole count meaning) rest = Read (record { items = [] })
held_under (Fault fault count) rest = Read (record { items = [] })

abbrev pub held_after : Rest → List ℕ → Rest
held_after rest piece = held_under (status_on rest piece) (rest_on rest piece)

abbrev pub phase_fed : List ℕ → Phase → Phase
phase_fed piece (Waiting rest) = Waiting (held_after rest piece)
phase_fed piece (Offered assignment) = Offered assignment
phase_fed piece (Up assignment) = Up assignment

-- a connection after a piece
abbrev pub row_fed : List ℕ → Row → Row
row_fed piece row = record row { phase = phase_fed piece row.phase }

-- a connection that its server took
abbrev pub row_up : Row → Row
row_up row = record row { phase = phase_up row.phase }

-- a connection that tracks one key more
abbrev pub row_tracking : Track → Row → Row
row_tracking track row = record row { tracks = by_counter (row.tracks ++ track ∷ []) }
