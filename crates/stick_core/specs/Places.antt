-- Entries by their places in an index, and the order in which the places were touched.
use Rattle.std.specs.Prelude.{◌≡◌, ◌<◌, ℕ, Bool, List, map, length, get_or, filter}
use Rattle.addr_core.specs.declared.addr.Addr.{Addr}
use Rattle.stick_core.specs.declared.entries.StickEntry.{StickEntry}
use Rattle.stick_core.specs.declared.index.Counts.{Counts}
use Rattle.stick_core.specs.Index.{nothing}
use Rattle.stick_core.specs.Entries.{is_free}
use Rattle.stick_core.specs.Ring.{Ranking, Has, Distinct, Below}

-- what contracts see of a list in the order of touch
pub record Touches : Type 0 where
  -- the one that was touched longest ago first
  pub entries : List StickEntry
  -- for how many more entries there is memory
  pub spare : ℕ

abbrev pub entry_of_pair : Addr × Counts → StickEntry
entry_of_pair pair = record { key = pair.0; cur = pair.1.cur; cnt = pair.1.cnt; last_touch = pair.1.last_touch }

-- of a key that is tracked for the first time
abbrev pub first_counts : ℕ → Counts
first_counts moment = record { cur = 1; cnt = 1; last_touch = moment }

-- the entry at a place
abbrev pub entry_at : List (Addr × Counts) → ℕ → StickEntry
entry_at index place = entry_of_pair (get_or index place nothing)

abbrev pub free_at : List (Addr × Counts) → ℕ → Bool
free_at index place = is_free (entry_at index place)

-- the entries in an order of their places
abbrev pub ranked : List (Addr × Counts) → List ℕ → List StickEntry
ranked index order = map (entry_at index) order

-- each place is once in the order of touch, and those of the free entries are, in that order, the order of the free ones
pub record IsKept (index : List (Addr × Counts)) (touched free : Ranking) : Type 0 where
  pub touched_places : touched.places ≡ length index
  pub free_places : free.places ≡ length index
  pub count : length touched.order ≡ length index
  pub each : (place : ℕ) → place < length index → Has place touched.order
  pub once : Distinct touched.order
  pub below : Below (length index) touched.order
  pub free_ones : free.order ≡ filter (free_at index) touched.order
