-- Entries, a key and an item each, in the order of rising keys.
use Rattle.std.specs.Prelude.{◌≡◌, ◌<◌, ◌+◌, ◌^◌, ◌==◌, ℕ, Bool, not, List, [], ◌∷◌, length, find, filter, map, if◌then◌else◌, Option}
use Rattle.std.specs.Option.{option_map}
use Rattle.std.specs.List.{AllByRecursion}

-- each item has a smaller number than those after it
abbrev pub Rise : {X : Type 0} → (X → ℕ) → List X → Type 0
Rise number [] = Unit {0}
Rise number (x ∷ xs) = AllByRecursion (λ y. number x < number y) xs × Rise number xs

-- what all items are worth together
abbrev pub total : {X : Type 0} → (X → ℕ) → List X → ℕ
total worth [] = 0
total worth (x ∷ xs) = worth x + total worth xs

module _ {T : Type 0} where
  abbrev pub has_key : ℕ → ℕ × T → Bool
  has_key key e = e.0 == key

  -- the item of a key
  abbrev pub item_at : ℕ → List (ℕ × T) → Option T
  item_at key entries = option_map (λ e. e.1) (find (has_key key) entries)

  -- all but the entry of a key
  abbrev pub without : ℕ → List (ℕ × T) → List (ℕ × T)
  without key entries = filter (λ e. not (has_key key e)) entries

  -- another item at a key
  abbrev pub with_item : ℕ → List (ℕ × T) → T → List (ℕ × T)
  with_item key entries item = map (λ e. if e.0 == key then (e.0, item) else e) entries

  abbrev pub items_of : List (ℕ × T) → List T
  items_of entries = map (λ e. e.1) entries

  -- each key is the item's own number
  abbrev pub AreNumbered : (T → ℕ) → List (ℕ × T) → Type 0
  AreNumbered number entries = AllByRecursion (λ e. e.0 ≡ number e.1) entries

-- no memory holds as many, and the sum of as many for each of 64 lists has 63 bits
abbrev pub IsFew : ℕ → Type 0
IsFew number = number < 2 ^ 56

-- the keys rise, and the entries are few
pub record AreKept {T : Type 0} (entries : List (ℕ × T)) : Type 0 where
  pub rise : Rise (λ e. e.0) entries
  pub few : IsFew (length entries)
