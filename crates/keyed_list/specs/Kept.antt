-- Places with rising keys, and how many of them have an item.
use Rattle.std.specs.Prelude.{◌≡◌, ℕ, List, ◌++◌, length, Option}
use Rattle.keyed_list.specs.Boxes.{entries_in, opened_by}
use Rattle.keyed_list.specs.Entries.{Rise, IsFew}

-- the keys of all places rise, so many of the near ones have an item, and the items are few
pub record AreKeptPlaces {B T : Type 0} (value : B → T) (far near : List (ℕ × Option B)) (number : ℕ) : Type 0 where
  pub rise : Rise (λ p. p.0) (far ++ near)
  pub count : number ≡ length (entries_in (opened_by value near))
  pub few : IsFew (length (entries_in (opened_by value (far ++ near))))
