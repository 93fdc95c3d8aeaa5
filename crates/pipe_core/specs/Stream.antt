-- Bytes on their way from a reader to a writer.
use Rattle.std.specs.Prelude.{◌≡◌, ◌+◌, ◌≤◌, ℕ, List, [], ◌++◌, length, take, Option, Some, None}
use Rattle.std.specs.Io.KnownBytes.{Appends, Consumes}

-- what was read was written, and with the bytes before it that are so many
pub record Carried (left_old left_new held_old held_new : Option (List ℕ)) (before count : ℕ) : Type 0 where
  pub got : List ℕ
  pub read : Consumes left_old left_new got
  pub wrote : Appends held_old held_new got
  pub counts : count ≡ before + length got

-- of what was read the first bytes were written
pub record Dropped (left_old left_new held_old held_new : Option (List ℕ)) : Type 0 where
  pub got : List ℕ
  pub count : ℕ
  pub within : count ≤ length got
  pub read : Consumes left_old left_new got
  pub wrote : Appends held_old held_new (take count got)

-- nothing is left of the bytes that a reader had, where it reports them
abbrev pub ReadsAll : Option (List ℕ) → Option (List ℕ) → Type 0
ReadsAll None new = Unit {0}
ReadsAll (Some all) new = new ≡ Some []

-- these bytes were written, and then what was read, and that are so many
pub record Delivery (left_old left_new held_old held_new : Option (List ℕ)) (first : List ℕ) (count : ℕ) : Type 0 where
  pub got : List ℕ
  pub read : Consumes left_old left_new got
  pub wrote : Appends held_old held_new (first ++ got)
  pub counts : count ≡ length (first ++ got)

-- of these bytes and what was read the first ones were written
pub record DeliveryFront (left_old left_new held_old held_new : Option (List ℕ)) (first : List ℕ) : Type 0 where
  pub got : List ℕ
  pub count : ℕ
  pub read : Consumes left_old left_new got
  pub wrote : Appends held_old held_new (take count (first ++ got))
