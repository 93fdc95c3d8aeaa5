-- Pairs of decisions, by their texts.
use Rattle.std.proofs.Common.{◌≡◌, ℕ, zero, suc, ◌<◌, ◌+◌, Bool, true, false, List, [], ◌∷◌, ◌++◌, length, get_or, Some, None, cond, refl, sym, ap, ◌∙◌, append_assoc, arith}
use Rattle.std.specs.Prelude.{nat_lt, slice_set}
use Rattle.std.specs.List.{position, position_or_len, AllByRecursion}
use Rattle.std.proofs.lemmas.Bool.Decides.{nat_tests}
use Rattle.std.proofs.lemmas.List.Quantifiers.{position-Some}
use Rattle.whatif_core.specs.Sums.{counted_again, first_of_its_kind, has_text, one_more, pairs_on}
use Rattle.whatif_core.specs.declared.tally.PairCount.{PairCount}

nowhere : (b : Bool) (n : ℕ) → cond b (Some n) None ≡ None → b ≡ false
nowhere true n e = absurd (cc)
nowhere false n e = refl

-- no pair has a text that is not found
absent : (p : PairCount → Bool) (pairs : List PairCount) → position p pairs ≡ None → AllByRecursion (λ x. p x ≡ false) pairs
absent p pairs none = past p pairs (nowhere (nat_lt (position_or_len p pairs) (length pairs)) (position_or_len p pairs) none)
  where
    past : (p : PairCount → Bool) (xs : List PairCount) → nat_lt (position_or_len p xs) (length xs) ≡ false → AllByRecursion (λ x. p x ≡ false) xs
    past p [] e = tt
    past p (x ∷ xs) e = by (p x) refl e (past p xs)
      where
        by : (b : Bool) → p x ≡ b → nat_lt (position_or_len p (x ∷ xs)) (length (x ∷ xs)) ≡ false → (nat_lt (position_or_len p xs) (length xs) ≡ false → AllByRecursion (λ x. p x ≡ false) xs)
            → AllByRecursion (λ x. p x ≡ false) (x ∷ xs)
        by true is e more = absurd (let f : nat_lt 0 (length (x ∷ xs)) ≡ false = rw is at e in let t : nat_lt 0 (length (x ∷ xs)) ≡ true = grind (arith, nat_tests) in let wrong : true ≡ false = sym t ∙ f in cc)
        by false is e more = (is, more (let f : nat_lt (1 + position_or_len p xs) (length (x ∷ xs)) ≡ false = rw is at e in grind (arith, nat_tests)))

new_by : (text : List ℕ) (pairs : List PairCount) → AllByRecursion (λ x. has_text text x ≡ false) pairs → pairs_on text pairs ≡ pairs ++ first_of_its_kind text ∷ []
new_by text [] none = refl
new_by text (pair ∷ pairs) none = let other = none.0 in rw other (ap (λ xs. pair ∷ xs) (new_by text pairs none.1))

-- two decisions that came up first
pub pairs_new : (text : List ℕ) (pairs : List PairCount) → position (has_text text) pairs ≡ None → pairs_on text pairs ≡ pairs ++ first_of_its_kind text ∷ []
pairs_new text pairs none = new_by text pairs (absent (has_text text) pairs none)

again_by : (text : List ℕ) (pairs : List PairCount) (n : ℕ) (d : PairCount) → n < length pairs → has_text text (get_or pairs n d) ≡ true → ((k : ℕ) → k < n → has_text text (get_or pairs k d) ≡ false)
    → pairs_on text pairs ≡ slice_set pairs n (counted_again (get_or pairs n d))
again_by text [] n d less here before = absurd (omega (arith, less))
again_by text (pair ∷ pairs) zero d less here before = rw here refl
again_by text (pair ∷ pairs) (suc n) d less here before =
    let other : has_text text pair ≡ false = before 0 (omega arith) in
    rw other (ap (λ xs. pair ∷ xs) (again_by text pairs n d (omega (arith, less)) here (λ k small. before (suc k) (omega (arith, small)))))

-- two that came up once more
pub pairs_again : (text : List ℕ) (pairs : List PairCount) (n : ℕ) (d : PairCount) → position (has_text text) pairs ≡ Some n → pairs_on text pairs ≡ slice_set pairs n (counted_again (get_or pairs n d))
pairs_again text pairs n d is = let at = position-Some (has_text text) pairs n d is in again_by text pairs n d at.0 at.1 at.2

pub pair_within : (text : List ℕ) (pairs : List PairCount) (n : ℕ) → position (has_text text) pairs ≡ Some n → n < length pairs
pair_within text pairs n is = (position-Some (has_text text) pairs n (first_of_its_kind text) is).0

-- three texts in a row
pub three_texts : (out a b c : List ℕ) → ((out ++ a) ++ b) ++ c ≡ out ++ ((a ++ b) ++ c)
three_texts out a b c = ap (λ xs. xs ++ c) (append_assoc out a b) ∙ append_assoc out (a ++ b) c

-- and four
pub four_texts : (out a b c d : List ℕ) → (((out ++ a) ++ b) ++ c) ++ d ≡ out ++ (((a ++ b) ++ c) ++ d)
four_texts out a b c d = ap (λ xs. xs ++ d) (three_texts out a b c) ∙ append_assoc out ((a ++ b) ++ c) d

-- the item that is counted again
pub pair_there : (text : List ℕ) (pairs : List PairCount) (n : ℕ) (pair : PairCount) (count : ℕ) → position (has_text text) pairs ≡ Some n → pair ≡ get_or pairs n pair → count ≡ one_more pair.count
    → slice_set pairs n (record { text = pair.text; count = count }) ≡ pairs_on text pairs
pair_there text pairs n pair count found is counts =
    ap (λ m. slice_set pairs n (record { text = pair.text; count = m })) counts ∙ ap (λ p. slice_set pairs n (counted_again p)) is ∙ sym (pairs_again text pairs n pair found)
