-- What a search finds, and an item that is changed at its place.
use Rattle.std.proofs.Common.{◌≡◌, ℕ, zero, suc, Bool, true, false, List, [], ◌∷◌, Some, refl, sym, ap, ◌∙◌}
use Rattle.std.specs.Prelude.{find, slice_get, slice_set}

-- what a search finds passes its test
pub find-passes : {X : Type 0} (p : X → Bool) (xs : List X) (y : X) → find p xs ≡ Some y → p y ≡ true
find-passes p [] y e = absurd (cc)
find-passes {X} p (x ∷ xs) y e = by (p x) refl e (find-passes p xs y)
  where
    by : (b : Bool) → p x ≡ b → find p (x ∷ xs) ≡ Some y → (find p xs ≡ Some y → p y ≡ true) → p y ≡ true
    by true is e more = let same : Some x ≡ Some y = rw is at e in let it : x ≡ y = cc in ap p (sym it) ∙ is
    by false is e more = more (rw is at e)

-- an item that is changed is there as it is changed
pub get-set : {X : Type 0} (xs : List X) (n : ℕ) (x y : X) → slice_get xs n ≡ Some x → slice_get (slice_set xs n y) n ≡ Some y
get-set [] n x y there = absurd (cc)
get-set (z ∷ xs) zero x y there = refl
get-set (z ∷ xs) (suc n) x y there = get-set xs n x y there
