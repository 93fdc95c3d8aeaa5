-- Items at their places in a list.
use Rattle.std.proofs.Common.{◌≡◌, ℕ, zero, suc, ◌+◌, ◌<◌, Bool, true, false, List, [], ◌∷◌, length, set, take, Option, Some, None, refl, sym, ap, ◌∙◌, arith}
use Rattle.std.specs.Prelude.{slice_get}
use Rattle.std.specs.List.{AllByRecursion, position}
use Rattle.std.proofs.lemmas.Bool.{false≢true}
use Rattle.list_core.proofs.Items.{absent, all-at, found}

-- what is true of each is so still
pub all_set : {X : Type 0} (P : X → Type 0) (xs : List X) (n : ℕ) (next : X) → AllByRecursion P xs → P next → AllByRecursion P (set xs n next)
all_set P [] n next all is = tt
all_set P (x ∷ xs) zero next all is = (is, all.1)
all_set P (x ∷ xs) (suc n) next all is = (all.0, all_set P xs n next all.1 is)

-- true of the first items and of the next one
room_next : {X : Type 0} (P : X → Type 0) (xs : List X) (n : ℕ) (next : X) → n < length xs → AllByRecursion P (take n xs) → P next → AllByRecursion P (take (suc n) (set xs n next))
room_next P [] n next less all is = absurd (omega (arith, less))
room_next P (x ∷ xs) zero next less all is = (is, tt)
room_next P (x ∷ xs) (suc n) next less all is = (all.0, room_next P xs n next (omega arith) all.1 is)

pub room_set : {X : Type 0} (P : X → Type 0) (xs : List X) (n : ℕ) (next : X) → n < length xs → AllByRecursion P (take n xs) → P next → AllByRecursion P (take (n + 1) (set xs n next))
room_set P xs n next less all is = let one : n + 1 ≡ suc n = omega arith in rw one (room_next P xs n next less all is)

-- the one item that passes
pub position-only : {X : Type 0} (p : X → Bool) (xs : List X) (n : ℕ) (x : X) → slice_get xs n ≡ Some x → p x ≡ true →
    ((m : ℕ) (y : X) → slice_get xs m ≡ Some y → p y ≡ true → m ≡ n) → position p xs ≡ Some n
position-only {X} p xs n x there passes only = by (position p xs) refl
  where
    by : (o : Option ℕ) → position p xs ≡ o → o ≡ Some n
    by None is = absurd (false≢true (sym (all-at (λ y. p y ≡ false) xs n x (absent p xs is) there) ∙ passes))
    by (Some m) is = let at = found p xs m is in ap (λ k. Some k) (only m at.0 at.1 at.2)
