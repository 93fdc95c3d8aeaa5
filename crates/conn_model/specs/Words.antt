-- Names of connections, the rows that have them, and words on lists.
use Rattle.std.specs.Prelude.{ℕ, Bool, List, [], ◌∷◌, find, slice_get, ◌+◌, ◌==◌, ◌&&◌, ◌<◌, Option, Some, None, Result, Ok, Err}
use Rattle.std.specs.List.{AllByRecursion}
pub use Rattle.list_core.specs.Newest.{newest}
use Rattle.conn_model.specs.declared.event.ConnId.{ConnId}
use Rattle.conn_model.specs.declared.plain.FrontendRows.{FrontendRows}
use Rattle.conn_model.specs.declared.plain.Row.{Row}

-- the connection of that frontend and serial
abbrev pub is_conn : ℕ → ℕ → ConnId → Bool
is_conn number serial id = (id.frontend == number) && (id.serial == serial)

abbrev pub row_in : ℕ → Option FrontendRows → Option Row
row_in serial None = None
row_in serial (Some own) = find (λ row. row.serial == serial) own.rows

-- the open connection of that name
abbrev pub row_at : List FrontendRows → ConnId → Option Row
row_at frontends id = row_in id.serial (slice_get frontends id.frontend)

-- each item changed by its number
abbrev pub map_from : {X : Type 0} → (ℕ → X → X) → ℕ → List X → List X
map_from change number [] = []
map_from change number (x ∷ xs) = change number x ∷ map_from change (number + 1) xs

-- each item has a smaller number than those after it
abbrev pub Rise : {X : Type 0} → (X → ℕ) → List X → Type 0
Rise number [] = Unit {0}
Rise number (x ∷ xs) = AllByRecursion (λ y. number x < number y) xs × Rise number xs

-- what is there, or else that fault
abbrev pub or_fault : {X F : Type 0} → F → Option X → Result X F
or_fault fault None = Err fault
or_fault fault (Some x) = Ok x
