-- A list cut at the first item that passes.
use Rattle.std.proofs.Common.{◌≡◌, ℕ, ◌+◌, ◌-◌, ◌<◌, ◌≤◌, Bool, false, cond, List, [], ◌∷◌, length, take, drop, Some, None, ap, ◌∙◌, arith}
use Rattle.std.specs.Prelude.{nat_lt}
use Rattle.std.specs.List.{slice_split, position, position_or_len}
use Rattle.std.proofs.lemmas.Bool.Decides.{nat_tests}
use Rattle.std.proofs.lemmas.Grind.{common_steps}
use Rattle.std.proofs.lemmas.List.Elements.{All-from_all_within}
use Rattle.std.proofs.lemmas.List.Sums.{fails_before_first}
use Rattle.std.proofs.lemmas.List.Splits.{slice_split_none, slice_split_first}

found : (a b i : ℕ) → cond (nat_lt a b) (Some a) None ≡ Some i → (a ≡ i) × (a < b)
found a b i e = grind (arith, nat_tests)

not_found : (a b : ℕ) → cond (nat_lt a b) (Some a) None ≡ None → b ≤ a
not_found a b e = grind (arith, nat_tests)

pub split_found : {X : Type 0} (p : X → Bool) (xs : List X) (d : X) (i : ℕ) → position p xs ≡ Some i → slice_split p xs ≡ take i xs ∷ slice_split p (drop (i + 1) xs)
split_found p xs d i e =
    let there = found (position_or_len p xs) (length xs) i e in
    slice_split_first p xs d there.1 ∙ ap (λ n. take n xs ∷ slice_split p (drop (n + 1) xs)) there.0

pub split_not_found : {X : Type 0} (p : X → Bool) (xs : List X) → position p xs ≡ None → slice_split p xs ≡ xs ∷ []
split_not_found p xs e =
    let beyond = not_found (position_or_len p xs) (length xs) e in
    slice_split_none p xs (All-from_all_within (λ x. p x ≡ false) xs (λ k d low high. fails_before_first p xs k d (omega (arith, beyond, high))))

-- a range up to the end
pub tail_all : {X : Type 0} (k : ℕ) (xs : List X) → take (length xs - k) (drop k xs) ≡ drop k xs
tail_all k xs = grind (arith, common_steps)
