-- The last item of a list.
use Rattle.std.proofs.Common.{◌≡◌, suc, ◌-◌, List, [], ◌∷◌, length, refl, ◌∙◌, sym, ap, arith}
use Rattle.std.specs.Prelude.{slice_get}
use Rattle.list_core.specs.Newest.{newest}

-- the item before the end is the newest
pub slice_get-last : {X : Type 0} (xs : List X) → slice_get xs (length xs - 1) ≡ newest xs
slice_get-last [] = refl
slice_get-last (x ∷ []) = refl
slice_get-last (x ∷ y ∷ xs) =
    let before : suc (suc (length xs)) - 1 ≡ suc (length xs) = omega arith in
    let here : suc (length xs) - 1 ≡ length xs = omega arith in
    ap (λ n. slice_get (x ∷ y ∷ xs) n) before ∙ ap (λ n. slice_get (y ∷ xs) n) (sym here) ∙ slice_get-last (y ∷ xs)
