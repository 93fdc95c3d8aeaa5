-- Places with keys, in which items lie in boxes until they are taken out.
use Rattle.std.specs.Prelude.{ℕ, List, [], ◌∷◌, map, Option, Some, None}
use Rattle.std.specs.Global.{Box}
use Rattle.std.specs.Option.{option_map}

-- entries of a tree, as places of which none is empty
abbrev pub settled : {B : Type 0} → List (ℕ × B) → List (ℕ × Option B)
settled entries = map (λ e. (e.0, Some e.1)) entries

-- the places of what the boxes hold
abbrev pub opened_by : {B T : Type 0} → (B → T) → List (ℕ × Option B) → List (ℕ × Option T)
opened_by value places = map (λ p. (p.0, option_map value p.1)) places

module _ {T : Type 0} where
  -- an item under its key, before others
  abbrev pub with_first : ℕ → Option T → List (ℕ × T) → List (ℕ × T)
  with_first key None entries = entries
  with_first key (Some item) entries = (key, item) ∷ entries

  -- the entries: of each place that is not empty its key and its item
  abbrev pub entries_in : List (ℕ × Option T) → List (ℕ × T)
  entries_in [] = []
  entries_in (p ∷ ps) = with_first p.0 p.1 (entries_in ps)

  -- those of boxes
  abbrev pub entries_of : List (ℕ × Option (Box T)) → List (ℕ × T)
  entries_of places = entries_in (opened_by (λ own. own.value) places)
