-- Which keys have no lease.
use Rattle.std.specs.Prelude.{◌≡◌, ℕ, List, Option, Some, None, slice_get}

-- there is a place for the lease of the key, and no lease
abbrev pub IsVacant : {A : Type 0} → List (Option A) → ℕ → Type 0
IsVacant slots key = slice_get slots key ≡ Some None
