-- Texts cut in two, and in parts.
use Rattle.std.proofs.Common.{◌≡◌, ℕ, zero, suc, ◌+◌, ◌-◌, ◌<◌, Bool, true, false, List, [], ◌∷◌, ◌++◌, length, take, drop, Some, None, Option, refl, ◌∙◌, sym, ap, arith, nat_eq, Bor, drop-drop}
use Rattle.std.specs.Prelude.{◌==◌, ◌&&◌, cond, if◌then◌else◌, slice_index, IfSome, IfNone}
use Rattle.std.specs.List.{All, AllByRecursion, join_with_byte, list_any, onto_first, slice_split, starts_with}
use Rattle.std.proofs.lemmas.Bool.Decides.{nat_tests}
use Rattle.std.proofs.lemmas.Grind.{common_steps}
use Rattle.std.proofs.lemmas.List.Splits.{slice_split_at, slice_split_none}
use Rattle.std.proofs.lemmas.List.{take_rest}
use Rattle.std.proofs.lemmas.Bool.{false_from_ne_true}
use Rattle.std.specs.Option.{option_map}
use Rattle.memchr.specs.Find.{Nowhere, Passes, is_byte}
use native.Mathlib.Numerals.{unary_clauses}
use Rattle.text_core.specs.Cut.{cut}

-- the first place of the mark is where the text is cut
pub cut_at : (mark text : List ℕ) (at : ℕ) → at < length text → ((k : ℕ) → k < at → starts_with nat_eq (drop k text) mark ≡ false) → starts_with nat_eq (drop at text) mark ≡ true
    → cut mark text ≡ Some (take at text, drop (length mark) (drop at text))
cut_at mark [] at lt before here = absurd (omega arith)
cut_at mark (x ∷ text) zero lt before here = rw here refl
cut_at mark (x ∷ text) (suc at) lt before here =
    let differs : starts_with nat_eq (x ∷ text) mark ≡ false = before 0 (omega arith) in
    let rest : cut mark text ≡ Some (take at text, drop (length mark) (drop at text)) = cut_at mark text at (omega arith) (λ k low. before (suc k) (omega arith)) here in
    rw (differs, rest) refl

pub cut_none : (mark text : List ℕ) → ((k : ℕ) → k < length text → starts_with nat_eq (drop k text) mark ≡ false) → cut mark text ≡ None
cut_none mark [] before = refl
cut_none mark (x ∷ text) before =
    let differs : starts_with nat_eq (x ∷ text) mark ≡ false = before 0 (omega arith) in
    let rest : cut mark text ≡ None = cut_none mark text (λ k low. before (suc k) (omega arith)) in
    rw (differs, rest) refl

-- a mark of one byte
starts_with-byte : (m x : ℕ) (text : List ℕ) → starts_with nat_eq (x ∷ text) (m ∷ []) ≡ (x == m)
starts_with-byte m x text = by (x == m) refl
  where
    by : (t : Bool) → (x == m) ≡ t → starts_with nat_eq (x ∷ text) (m ∷ []) ≡ (x == m)
    by true is = let other : (m == x) ≡ true = grind (arith, nat_tests) in rw (is, other) refl
    by false is = let other : (m == x) ≡ false = grind (arith, nat_tests) in rw (is, other) refl

-- a step of a cut at one byte
cut-step : (m x : ℕ) (text : List ℕ) → cut (m ∷ []) (x ∷ text) ≡ (if x == m then Some ([], text) else option_map (λ parts. (x ∷ parts.0, parts.1)) (cut (m ∷ []) text))
cut-step m x text = rw (starts_with-byte m x text) refl

-- the first place of a byte is where the text is cut
at_place : (m : ℕ) (text : List ℕ) (at : ℕ) → at < length text → Nowhere (Passes (is_byte m) text) 0 at → (slice_index text at == m) ≡ true
    → cut (m ∷ []) text ≡ Some (take at text, drop (at + 1) text)
at_place m [] at lt none is = absurd (omega arith)
at_place m (b ∷ text) zero lt none is = rw (cut-step m b text, is) refl
at_place m (b ∷ text) (suc at) lt none is =
    let differs : (b == m) ≡ false = false_from_ne_true (b == m) (none 0 (omega arith) (omega arith)) in
    let rest : cut (m ∷ []) text ≡ Some (take at text, drop (at + 1) text) = at_place m text at (omega arith) (λ k low high. none (suc k) (omega arith) (omega arith)) is in
    let shift : drop (at + 1) text ≡ drop (suc at + 1) (b ∷ text) = simp unary_clauses refl in
    rw (cut-step m b text, differs, rest) (ap (λ back. Some (b ∷ take at text, back)) shift)

pub cut-found : (m : ℕ) (text : List ℕ) (at : ℕ) → at < length text → Nowhere (Passes (is_byte m) text) 0 at → (slice_index text at == m) ≡ true
    → cut (m ∷ []) text ≡ Some (take at text, take (length text - (at + 1)) (drop (at + 1) text))
cut-found m text at lt none is = rw (take_rest text (at + 1)) (at_place m text at lt none is)

pub cut-not_found : (m : ℕ) (text : List ℕ) → Nowhere (Passes (is_byte m) text) 0 (length text) → cut (m ∷ []) text ≡ None
cut-not_found m [] none = refl
cut-not_found m (b ∷ text) none =
    let differs : (b == m) ≡ false = false_from_ne_true (b == m) (none 0 (omega arith) (omega arith)) in
    let rest : cut (m ∷ []) text ≡ None = cut-not_found m text (λ k low high. none (suc k) (omega arith) (omega arith)) in
    rw (cut-step m b text, differs, rest) refl

-- the parts of two equal cuts
some_pair : (o q : List ℕ × List ℕ) → Some o ≡ Some q → (o.0 ≡ q.0) × (o.1 ≡ q.1)
some_pair o q is = let pair : o ≡ q = cc in (ap (λ p. p.0) pair, ap (λ p. p.1) pair)

-- the parts put together are the text
pub cut-joins : (m : ℕ) (text front back : List ℕ) → cut (m ∷ []) text ≡ Some (front, back) → text ≡ front ++ m ∷ back
cut-joins m [] front back is = absurd cc
cut-joins m (x ∷ text) front back is = by (x == m) refl (cut (m ∷ []) text) refl (λ f. cut-joins m text f back)
  where
    by : (t : Bool) → (x == m) ≡ t → (o : Option (List ℕ × List ℕ)) → cut (m ∷ []) text ≡ o → ((f : List ℕ) → cut (m ∷ []) text ≡ Some (f, back) → text ≡ f ++ m ∷ back) → x ∷ text ≡ front ++ m ∷ back
    by true test o found rest =
        let same = rw (cut-step m x text, test) at is in
        let none : [] ≡ front = (some_pair ([], text) (front, back) same).0 in
        let all : text ≡ back = (some_pair ([], text) (front, back) same).1 in
        let byte : x ≡ m = grind (arith, nat_tests) in
        rw (← none, ← all, byte) refl
    by false test None found rest = let wrong = rw (cut-step m x text, test, found) at is in absurd cc
    by false test (Some parts) found rest =
        let same = rw (cut-step m x text, test, found) at is in
        let begins : x ∷ parts.0 ≡ front = (some_pair (x ∷ parts.0, parts.1) (front, back) same).0 in
        let ends : parts.1 ≡ back = (some_pair (x ∷ parts.0, parts.1) (front, back) same).1 in
        let whole : text ≡ parts.0 ++ m ∷ back = rest parts.0 (found ∙ ap (λ b. Some (parts.0, b)) ends) in
        rw (← begins, whole) refl

-- the parts are found again
pub cut-at_mark : (m : ℕ) (front back : List ℕ) → list_any (λ b. b == m) front ≡ false → cut (m ∷ []) (front ++ m ∷ back) ≡ Some (front, back)
cut-at_mark m [] back none = let test : (m == m) ≡ true = grind (arith, nat_tests) in rw (cut-step m m back, test) refl
cut-at_mark m (x ∷ front) back none = by (x == m) refl (λ h. cut-at_mark m front back h)
  where
    by : (t : Bool) → (x == m) ≡ t → (list_any (λ b. b == m) front ≡ false → cut (m ∷ []) (front ++ m ∷ back) ≡ Some (front, back)) → cut (m ∷ []) (x ∷ front ++ m ∷ back) ≡ Some (x ∷ front, back)
    by true test rest = let wrong = rw test at none in absurd cc
    by false test rest = let found : cut (m ∷ []) (front ++ m ∷ back) ≡ Some (front, back) = rest (rw test at none) in rw (cut-step m x (front ++ m ∷ back), test, found) refl

pub cut-no_mark : (m : ℕ) (text : List ℕ) → list_any (λ b. b == m) text ≡ false → cut (m ∷ []) text ≡ None
cut-no_mark m [] none = refl
cut-no_mark m (x ∷ text) none = by (x == m) refl (λ h. cut-no_mark m text h)
  where
    by : (t : Bool) → (x == m) ≡ t → (list_any (λ b. b == m) text ≡ false → cut (m ∷ []) text ≡ None) → cut (m ∷ []) (x ∷ text) ≡ None
    by true test rest = let wrong = rw test at none in absurd cc
    by false test rest = let found : cut (m ∷ []) text ≡ None = rest (rw test at none) in rw (cut-step m x text, test, found) refl

-- a cut at the first such byte takes the first part off
pub split-cut : (m : ℕ) (text front back : List ℕ) → cut (m ∷ []) text ≡ Some (front, back) → slice_split (λ b. b == m) text ≡ front ∷ slice_split (λ b. b == m) back
split-cut m [] front back is = absurd cc
split-cut m (x ∷ text) front back is = by (x == m) refl (cut (m ∷ []) text) refl (λ f. split-cut m text f back)
  where
    by : (t : Bool) → (x == m) ≡ t → (o : Option (List ℕ × List ℕ)) → cut (m ∷ []) text ≡ o → ((f : List ℕ) → cut (m ∷ []) text ≡ Some (f, back) → slice_split (λ b. b == m) text ≡ f ∷ slice_split (λ b. b == m) back)
        → slice_split (λ b. b == m) (x ∷ text) ≡ front ∷ slice_split (λ b. b == m) back
    by true test o found rest =
        let same = rw (cut-step m x text, test) at is in
        let none : [] ≡ front = (some_pair ([], text) (front, back) same).0 in
        let all : text ≡ back = (some_pair ([], text) (front, back) same).1 in
        rw (test, ← none, ← all) refl
    by false test None found rest = let wrong = rw (cut-step m x text, test, found) at is in absurd cc
    by false test (Some parts) found rest =
        let same = rw (cut-step m x text, test, found) at is in
        let begins : x ∷ parts.0 ≡ front = (some_pair (x ∷ parts.0, parts.1) (front, back) same).0 in
        let ends : parts.1 ≡ back = (some_pair (x ∷ parts.0, parts.1) (front, back) same).1 in
        let split : slice_split (λ b. b == m) text ≡ parts.0 ∷ slice_split (λ b. b == m) back = rest parts.0 (found ∙ ap (λ b. Some (parts.0, b)) ends) in
        rw (test, ← begins, split) refl

pub split-uncut : (m : ℕ) (text : List ℕ) → cut (m ∷ []) text ≡ None → slice_split (λ b. b == m) text ≡ text ∷ []
split-uncut m [] is = refl
split-uncut m (x ∷ text) is = by (x == m) refl (cut (m ∷ []) text) refl (split-uncut m text)
  where
    by : (t : Bool) → (x == m) ≡ t → (o : Option (List ℕ × List ℕ)) → cut (m ∷ []) text ≡ o → (cut (m ∷ []) text ≡ None → slice_split (λ b. b == m) text ≡ text ∷ []) → slice_split (λ b. b == m) (x ∷ text) ≡ (x ∷ text) ∷ []
    by true test o found rest = let wrong = rw (cut-step m x text, test) at is in absurd cc
    by false test (Some parts) found rest = let wrong = rw (cut-step m x text, test, found) at is in absurd cc
    by false test None found rest = let split : slice_split (λ b. b == m) text ≡ text ∷ [] = rest found in rw (test, split) refl

-- a range up to the end, past a mark
pub tail_past : (mark text : List ℕ) (at : ℕ) → drop (length mark) (drop at text) ≡ take (length text - (at + length mark)) (drop (at + length mark) text)
tail_past mark text at = drop-drop (length mark) at text ∙ grind (arith, common_steps)

-- what a cut of slices says of the parts
pub split_some : (m : ℕ) (text : List ℕ) (r : Option (Bor (List ℕ) × Bor (List ℕ))) → option_map (λ parts. (parts.0.now, parts.1.now)) r ≡ cut (m ∷ []) text
    → IfSome r (λ parts. slice_split (λ b. b == m) text ≡ parts.0.now ∷ slice_split (λ b. b == m) parts.1.now)
split_some m text None is = tt
split_some m text (Some parts) is = split-cut m text parts.0.now parts.1.now (sym is)

pub split_none : (m : ℕ) (text : List ℕ) (r : Option (Bor (List ℕ) × Bor (List ℕ))) → option_map (λ parts. (parts.0.now, parts.1.now)) r ≡ cut (m ∷ []) text
    → IfNone r (slice_split (λ b. b == m) text ≡ text ∷ [])
split_none m text None is = split-uncut m text (sym is)
split_none m text (Some parts) is = tt

-- ---- marks of two bytes

pub pair_test : (m n x y : ℕ) (text : List ℕ) → starts_with nat_eq (x ∷ y ∷ text) (m ∷ n ∷ []) ≡ ((x == m) && (y == n))
pair_test m n x y text = by (x == m) (y == n) refl refl
  where
    by : (s t : Bool) → (x == m) ≡ s → (y == n) ≡ t → starts_with nat_eq (x ∷ y ∷ text) (m ∷ n ∷ []) ≡ ((x == m) && (y == n))
    by true true a b = let c : (m == x) ≡ true = grind (arith, nat_tests) in let d : (n == y) ≡ true = grind (arith, nat_tests) in rw (a, b, c, d) refl
    by true false a b = let c : (m == x) ≡ true = grind (arith, nat_tests) in let d : (n == y) ≡ false = grind (arith, nat_tests) in rw (a, b, c, d) refl
    by false t a b = let c : (m == x) ≡ false = grind (arith, nat_tests) in rw (a, c) refl

pub single_test : (m n x : ℕ) → starts_with nat_eq (x ∷ []) (m ∷ n ∷ []) ≡ false
single_test m n x = by (m == x) refl
  where
    by : (t : Bool) → (m == x) ≡ t → starts_with nat_eq (x ∷ []) (m ∷ n ∷ []) ≡ false
    by true is = rw is refl
    by false is = rw is refl

-- a step of a cut at two bytes
pub cut_pair-step : (m n x y : ℕ) (text : List ℕ) → cut (m ∷ n ∷ []) (x ∷ y ∷ text) ≡ (if (x == m) && (y == n) then Some ([], text) else option_map (λ parts. (x ∷ parts.0, parts.1)) (cut (m ∷ n ∷ []) (y ∷ text)))
cut_pair-step m n x y text = rw (pair_test m n x y text) refl

pub cut_pair-single : (m n x : ℕ) → cut (m ∷ n ∷ []) (x ∷ []) ≡ None
cut_pair-single m n x = rw (single_test m n x) refl

both_true : (s t : Bool) → (s && t) ≡ true → (s ≡ true) × (t ≡ true)
both_true true true is = (refl, refl)
both_true true false is = absurd cc
both_true false t is = absurd cc

-- the parts put together are the text
pub cut_pair-joins : (m n : ℕ) (text front back : List ℕ) → cut (m ∷ n ∷ []) text ≡ Some (front, back) → text ≡ front ++ m ∷ n ∷ back
cut_pair-joins m n [] front back is = absurd cc
cut_pair-joins m n (x ∷ []) front back is = let wrong = rw (cut_pair-single m n x) at is in absurd cc
cut_pair-joins m n (x ∷ y ∷ text) front back is = by ((x == m) && (y == n)) refl (cut (m ∷ n ∷ []) (y ∷ text)) refl (λ f. cut_pair-joins m n (y ∷ text) f back)
  where
    by : (t : Bool) → ((x == m) && (y == n)) ≡ t → (o : Option (List ℕ × List ℕ)) → cut (m ∷ n ∷ []) (y ∷ text) ≡ o → ((f : List ℕ) → cut (m ∷ n ∷ []) (y ∷ text) ≡ Some (f, back) → y ∷ text ≡ f ++ m ∷ n ∷ back)
        → x ∷ y ∷ text ≡ front ++ m ∷ n ∷ back
    by true test o found rest =
        let same = rw (cut_pair-step m n x y text, test) at is in
        let none : [] ≡ front = (some_pair ([], text) (front, back) same).0 in
        let all : text ≡ back = (some_pair ([], text) (front, back) same).1 in
        let both = both_true (x == m) (y == n) test in
        let first : x ≡ m = grind (arith, nat_tests, both.0) in
        let second : y ≡ n = grind (arith, nat_tests, both.1) in
        rw (← none, ← all, first, second) refl
    by false test None found rest = let wrong = rw (cut_pair-step m n x y text, test, found) at is in absurd cc
    by false test (Some parts) found rest =
        let same = rw (cut_pair-step m n x y text, test, found) at is in
        let begins : x ∷ parts.0 ≡ front = (some_pair (x ∷ parts.0, parts.1) (front, back) same).0 in
        let ends : parts.1 ≡ back = (some_pair (x ∷ parts.0, parts.1) (front, back) same).1 in
        let whole : y ∷ text ≡ parts.0 ++ m ∷ n ∷ back = rest parts.0 (found ∙ ap (λ b. Some (parts.0, b)) ends) in
        rw (← begins, whole) refl

-- the parts are found again, where the first byte of the mark is not in the front
pub cut_pair-at_mark : (m n : ℕ) (front back : List ℕ) → list_any (λ b. b == m) front ≡ false → cut (m ∷ n ∷ []) (front ++ m ∷ n ∷ back) ≡ Some (front, back)
cut_pair-at_mark m n [] back none =
    let first : (m == m) ≡ true = grind (arith, nat_tests) in
    let second : (n == n) ≡ true = grind (arith, nat_tests) in
    rw (cut_pair-step m n m n back, first, second) refl
cut_pair-at_mark m n (x ∷ []) back none = by (x == m) refl (cut_pair-at_mark m n [] back refl)
  where
    by : (t : Bool) → (x == m) ≡ t → cut (m ∷ n ∷ []) (m ∷ n ∷ back) ≡ Some ([], back) → cut (m ∷ n ∷ []) (x ∷ m ∷ n ∷ back) ≡ Some (x ∷ [], back)
    by true test found = let wrong = rw test at none in absurd cc
    by false test found = rw (cut_pair-step m n x m (n ∷ back), test, found) refl
cut_pair-at_mark m n (x ∷ y ∷ front) back none = by (x == m) refl (λ h. cut_pair-at_mark m n (y ∷ front) back h)
  where
    by : (t : Bool) → (x == m) ≡ t → (list_any (λ b. b == m) (y ∷ front) ≡ false → cut (m ∷ n ∷ []) (y ∷ front ++ m ∷ n ∷ back) ≡ Some (y ∷ front, back)) → cut (m ∷ n ∷ []) (x ∷ y ∷ front ++ m ∷ n ∷ back) ≡ Some (x ∷ y ∷ front, back)
    by true test rest = let wrong = rw test at none in absurd cc
    by false test rest =
        let found : cut (m ∷ n ∷ []) (y ∷ front ++ m ∷ n ∷ back) ≡ Some (y ∷ front, back) = rest (rw test at none) in
        rw (cut_pair-step m n x y (front ++ m ∷ n ∷ back), test, found) refl

-- there is no mark before the first
pub cut-first : (m : ℕ) (text front back : List ℕ) → cut (m ∷ []) text ≡ Some (front, back) → list_any (λ b. b == m) front ≡ false
cut-first m [] front back is = absurd cc
cut-first m (x ∷ text) front back is = by (x == m) refl (cut (m ∷ []) text) refl (λ f. cut-first m text f back)
  where
    by : (t : Bool) → (x == m) ≡ t → (o : Option (List ℕ × List ℕ)) → cut (m ∷ []) text ≡ o → ((f : List ℕ) → cut (m ∷ []) text ≡ Some (f, back) → list_any (λ b. b == m) f ≡ false) → list_any (λ b. b == m) front ≡ false
    by true test o found rest =
        let same = rw (cut-step m x text, test) at is in
        let none : [] ≡ front = (some_pair ([], text) (front, back) same).0 in
        rw (← none) refl
    by false test None found rest = let wrong = rw (cut-step m x text, test, found) at is in absurd cc
    by false test (Some parts) found rest =
        let same = rw (cut-step m x text, test, found) at is in
        let begins : x ∷ parts.0 ≡ front = (some_pair (x ∷ parts.0, parts.1) (front, back) same).0 in
        let ends : parts.1 ≡ back = (some_pair (x ∷ parts.0, parts.1) (front, back) same).1 in
        let later : list_any (λ b. b == m) parts.0 ≡ false = rest parts.0 (found ∙ ap (λ b. Some (parts.0, b)) ends) in
        rw (← begins, test, later) refl

-- there is a first part
first_of_split : (b : ℕ) (parts : List (List ℕ)) (t : Bool) → (part : List ℕ) × (more : List (List ℕ)) × (cond t ([] ∷ parts) (onto_first b parts) ≡ part ∷ more)
first_of_split b parts true = ([], parts, refl)
first_of_split b [] false = (b ∷ [], [], refl)
first_of_split b (part ∷ parts) false = (b ∷ part, parts, refl)

pub split_first : (p : ℕ → Bool) (text : List ℕ) → (part : List ℕ) × (more : List (List ℕ)) × (slice_split p text ≡ part ∷ more)
split_first p [] = ([], [], refl)
split_first p (b ∷ text) = first_of_split b (slice_split p text) (p b)

-- words without the byte that joins them are found again
pub split-join : (m : ℕ) (word : List ℕ) (words : List (List ℕ)) → AllByRecursion (All (λ b. (b == m) ≡ false)) (word ∷ words) → slice_split (λ b. b == m) (join_with_byte m (word ∷ words)) ≡ word ∷ words
split-join m word [] lack = slice_split_none (λ b. b == m) word lack.0
split-join m word (next ∷ words) lack =
    let test : (m == m) ≡ true = grind (arith, nat_tests) in
    slice_split_at (λ b. b == m) word m (join_with_byte m (next ∷ words)) lack.0 test ∙ ap (λ ws. word ∷ ws) (split-join m next words lack.1)
