use Rattle.std.proofs.Common.{◌≡◌, ◌≢◌, ℕ, zero, suc, ◌+◌, ◌-◌, ◌<◌, ◌≤◌, ◌⊎◌, ⊎_elim, inl, inr, List, [], ◌∷◌, ◌++◌, length, get_or, Some, None, Bool, true, false, subst, sym, ap, refl, arith, ◌∙◌, length-append}
use Rattle.std.specs.Prelude.{slice_get, sum_by, nat_lt, if◌then◌else◌}
use Rattle.std.specs.List.{All, AllPairs, Contains, range_with_len}
use Rattle.std.specs.Set.{is_member}
use Rattle.std.proofs.Math.Dec.{eqb}
use Rattle.std.proofs.lemmas.Bool.Decides.{Decides-eqb, Decides-ltb}
use Rattle.std.proofs.lemmas.List.Elements.{All-cons, All-append, All-contains, Contains-append_cases}
use Rattle.std.proofs.lemmas.List.Kept.{AllPairs-cons}
use Rattle.std.proofs.lemmas.List.Sums.{sum_by-cons}
use Rattle.std.specs.Cmp.{IsEquivalence}
use Rattle.std.specs.Bool.{one_answer}
use Rattle.std.proofs.lemmas.List.FromFn.{length-range_with_len, get_or-range_with_len}
use Rattle.std.proofs.lemmas.Map.Made.{IsDistinct-from_AllPairs, is_member-Decides, length-le_from_is_member}
use Rattle.std.proofs.lemmas.Option.{get_or_from_slice_get, slice_get_within, slice_get-get_or}
use Rattle.record_core.specs.declared.record.Record.{Record}
use Rattle.desk_core.specs.Receipts.{record_at, AreRecordsOf, NumbersRise, HasNumber, ShareNoNumber, HasEarlier, EachIsReceiptOfOneCall}
use Rattle.desk_core.proofs.Lists.{rising}

-- the numbers of a pass, and of all passes
abbrev numbers : List Record → List ℕ
numbers [] = []
numbers (r ∷ rs) = r.number ∷ numbers rs

abbrev all_numbers : List (List Record) → List ℕ
all_numbers [] = []
all_numbers (p ∷ ps) = numbers p ++ all_numbers ps

length-numbers : (p : List Record) → length (numbers p) ≡ length p
length-numbers [] = refl
length-numbers (r ∷ rs) = ap suc (length-numbers rs)

length-all_numbers : (ps : List (List Record)) → length (all_numbers ps) ≡ sum_by (λ p. length p) ps
length-all_numbers [] = refl
length-all_numbers (p ∷ ps) = length-append (numbers p) (all_numbers ps) ∙ ap (λ k. k + length (all_numbers ps)) (length-numbers p) ∙ ap (λ k. length p + k) (length-all_numbers ps) ∙ sym (sum_by-cons (λ p. length p) p ps)

-- a number of a pass is that of one of its records
has_place : (p : List Record) (k n : ℕ) → slice_get (numbers p) k ≡ Some n → (r : Record) × (slice_get p k ≡ Some r) × (r.number ≡ n)
has_place [] k n e = let e' : None ≡ Some n = e in absurd cc
has_place (r ∷ rs) zero n e = (r, refl, cc)
has_place (r ∷ rs) (suc k) n e = has_place rs k n e

has_from : (p : List Record) (n : ℕ) → Contains (numbers p) n → HasNumber p n
has_from p n h =
    let at = has_place p h.0 n (slice_get-get_or (numbers p) h.0 n h.1 ∙ ap (λ m. Some m) h.2) in
    (h.0, at.0, at.1, at.2)

earlier_from : (ps : List (List Record)) (n : ℕ) → Contains (all_numbers ps) n → HasEarlier ps n
earlier_from [] n h = absurd (omega (arith, h.1))
earlier_from (p ∷ ps) n h = ⊎_elim
    (λ (t : Contains (numbers p) n). (0, p, refl, has_from p n t))
    (λ (t : Contains (all_numbers ps) n). let e = earlier_from ps n t in (suc e.0, e.1, e.2, e.3))
    (Contains-append_cases (numbers p) (all_numbers ps) n h)

pairs_head : {X : Type 0} (R : X → X → Type 0) (x : X) (xs : List X) → AllPairs R (x ∷ xs) → All (R x) xs
pairs_head R x xs h k d l = h 0 (suc k) d (omega arith) (omega arith)

pairs_tail : {X : Type 0} (R : X → X → Type 0) (x : X) (xs : List X) → AllPairs R (x ∷ xs) → AllPairs R xs
pairs_tail R x xs h i j d l m = h (suc i) (suc j) d (omega arith) (omega arith)

all_tail : {X : Type 0} (P : X → Type 0) (x : X) (xs : List X) → All P (x ∷ xs) → All P xs
all_tail P x xs h k d l = h (suc k) d (omega arith)

pub all_here : {X : Type 0} (P : X → Type 0) (xs : List X) (k : ℕ) (x : X) → All P xs → slice_get xs k ≡ Some x → P x
all_here P xs k x h e = subst P (get_or_from_slice_get xs k x x e) (h k x (slice_get_within xs k x e))

pairs_append : {X : Type 0} (R : X → X → Type 0) (xs ys : List X) → AllPairs R xs → AllPairs R ys → All (λ x. All (R x) ys) xs → AllPairs R (xs ++ ys)
pairs_append R [] ys f g c = g
pairs_append R (x ∷ xs) ys f g c =
    AllPairs-cons R x (xs ++ ys) (All-append (R x) xs ys (pairs_head R x xs f) (c 0 x (omega arith))) (pairs_append R xs ys (pairs_tail R x xs f) g (all_tail (λ z. All (R z) ys) x xs c))

numbers_all : (P : ℕ → Type 0) (p : List Record) → All (λ r. P r.number) p → All P (numbers p)
numbers_all P [] h = λ k d l. absurd (omega arith)
numbers_all P (r ∷ rs) h = All-cons P r.number (numbers rs) (h 0 r (omega arith)) (numbers_all P rs (all_tail (λ s. P s.number) r rs h))

numbers_differ : (p : List Record) → NumbersRise p → AllPairs (λ (a b : ℕ). a ≢ b) (numbers p)
numbers_differ [] h = λ i j d l m. absurd (omega arith)
numbers_differ (r ∷ rs) h = AllPairs-cons (λ a b. a ≢ b) r.number (numbers rs)
    (numbers_all (λ b. r.number ≢ b) rs (λ k d l e. let less = pairs_head (λ (s t : Record). s.number < t.number) r rs h k d l in omega arith))
    (numbers_differ rs (pairs_tail (λ s t. s.number < t.number) r rs h))

all_contained : {X : Type 0} (P : X → Type 0) (xs : List X) → ((x : X) → Contains xs x → P x) → All P xs
all_contained P xs h k d l = h (get_or xs k d) (k, l, get_or_from_slice_get xs k (get_or xs k d) (get_or xs k d) (slice_get-get_or xs k d l))

all_numbers_differ : (ps : List (List Record)) → All NumbersRise ps → AllPairs ShareNoNumber ps → AllPairs (λ (a b : ℕ). a ≢ b) (all_numbers ps)
all_numbers_differ [] r a = λ i j d l m. absurd (omega arith)
all_numbers_differ (p ∷ ps) r a = pairs_append (λ x y. x ≢ y) (numbers p) (all_numbers ps)
    (numbers_differ p (r 0 p (omega arith)))
    (all_numbers_differ ps (all_tail NumbersRise p ps r) (pairs_tail ShareNoNumber p ps a))
    (all_contained (λ x. All (λ y. x ≢ y) (all_numbers ps)) (numbers p) (λ x in_p. all_contained (λ y. x ≢ y) (all_numbers ps) (λ y in_ps same. apart x y in_p in_ps same)))
  where
    apart : (x y : ℕ) → Contains (numbers p) x → Contains (all_numbers ps) y → x ≡ y → ⊥
    apart x y in_p in_ps same =
        let e = earlier_from ps y in_ps in
        all_here (ShareNoNumber p) ps e.0 e.1 (pairs_head ShareNoNumber p ps a) e.2 y (subst (HasNumber p) same (has_from p x in_p)) e.3

all_numbers_all : (P : ℕ → Type 0) (ps : List (List Record)) → All (λ p. All (λ r. P r.number) p) ps → All P (all_numbers ps)
all_numbers_all P [] h = λ k d l. absurd (omega arith)
all_numbers_all P (p ∷ ps) h = All-append P (numbers p) (all_numbers ps) (numbers_all P p (h 0 p (omega arith))) (all_numbers_all P ps (all_tail (λ q. All (λ r. P r.number) q) p ps h))

-- n numbers from 1 to n that differ are all of them
fills : (made : ℕ) (ns : List ℕ) → AllPairs (λ (a b : ℕ). a ≢ b) ns → All (λ n. (1 ≤ n) × (n ≤ made)) ns → length ns ≡ made → (n : ℕ) → 1 ≤ n → n ≤ made → Contains ns n
fills made ns differ within full n low high = by_test (is_member eqb ns n) refl
  where
    laws : IsEquivalence eqb
    laws = record {
      refl = λ x. (Decides-eqb x x).1 refl;
      symm = λ x y. one_answer (eqb x y) (eqb y x) (Decides-eqb x y) ((λ t. sym ((Decides-eqb y x).0 t)), (λ e. (Decides-eqb y x).1 (sym e)));
      congr = λ x y z t. ap (λ w. eqb w z) ((Decides-eqb x y).0 t);
    }

    in_range : (q : ℕ) → 1 ≤ q → q ≤ made → Contains (range_with_len 1 made) q
    in_range q l h =
        let at : get_or (range_with_len 1 made) (q - 1) q ≡ 1 + (q - 1) = get_or-range_with_len 1 made (q - 1) q (omega arith) in
        let long = length-range_with_len 1 made in
        (q - 1, omega arith, omega arith)

    by_test : (b : Bool) → is_member eqb ns n ≡ b → Contains ns n
    by_test true e = (is_member-Decides Decides-eqb ns n).0 e
    by_test false e =
        let more : AllPairs (λ (a b : ℕ). a ≢ b) (n ∷ ns) = AllPairs-cons (λ a b. a ≢ b) n ns (all_contained (λ m. n ≢ m) ns (λ m there same.
        let yes : is_member eqb ns n ≡ true = (is_member-Decides Decides-eqb ns n).1 (subst (Contains ns) (sym same) there) in
        let no : true ≡ false = sym yes ∙ e in cc)) differ in
        let all : All (λ m. (1 ≤ m) × (m ≤ made)) (n ∷ ns) = All-cons (λ m. (1 ≤ m) × (m ≤ made)) n ns (low, high) within in
        let long : length (n ∷ ns) ≤ length (range_with_len 1 made) = length-le_from_is_member laws (n ∷ ns) (range_with_len 1 made) (IsDistinct-from_AllPairs Decides-eqb (n ∷ ns) more) (λ q t.
        let w = All-contains (λ m. (1 ≤ m) × (m ≤ made)) (n ∷ ns) q all ((is_member-Decides Decides-eqb (n ∷ ns) q).0 t) in
        (is_member-Decides Decides-eqb (range_with_len 1 made) q).1 (in_range q w.0 w.1)) in
        let size = length-range_with_len 1 made in
        absurd (omega arith)

-- the number of a record is 1 at least, and the number of records at most
number_within : (records : List Record) (n : ℕ) (r : Record) → record_at 1 records n ≡ Some r → (1 ≤ n) × (n ≤ length records)
number_within records n r h = by_test (nat_lt n 1) refl
  where
    by_test : (b : Bool) → nat_lt n 1 ≡ b → (1 ≤ n) × (n ≤ length records)
    by_test true e =
        let h' : None ≡ Some r = subst (λ (b : Bool). (if b then None else slice_get records (n - 1)) ≡ Some r) e h in absurd cc
    by_test false e =
        let h' : slice_get records (n - 1) ≡ Some r = subst (λ (b : Bool). (if b then None else slice_get records (n - 1)) ≡ Some r) e h in
        let long = slice_get_within records (n - 1) r h' in
        let no : n < 1 → ⊥ = λ l. let yes : false ≡ true = sym e ∙ (Decides-ltb n 1).1 l in cc in
        let above : 1 ≤ n = omega (arith, no) in
        (omega arith, omega arith)

pub pairs_at : {X : Type 0} (R : X → X → Type 0) (xs : List X) (i j : ℕ) (x y : X) → AllPairs R xs → i < j → slice_get xs i ≡ Some x → slice_get xs j ≡ Some y → R x y
pairs_at R xs i j x y h l e f =
    subst (λ a. R a y) (get_or_from_slice_get xs i x x e) (subst (λ b. R (get_or xs i x) b) (get_or_from_slice_get xs j y x f) (h i j x l (slice_get_within xs j y f)))

abbrev pub Order : ℕ → ℕ → Type 0
Order i j = (i < j) ⊎ ((i ≡ j) ⊎ (j < i))

pub order : (i j : ℕ) → Order i j
order zero zero = inr (inl refl)
order zero (suc j) = inl (omega arith)
order (suc i) zero = inr (inr (omega arith))
order (suc i) (suc j) = ⊎_elim (λ (t : i < j). inl (omega arith)) (λ (t : (i ≡ j) ⊎ (j < i)). ⊎_elim (λ (u : i ≡ j). inr (inl (ap suc u))) (λ (u : j < i). inr (inr (omega arith))) t) (order i j)

-- each record is given once
pub each_is_receipt_of_one_call : EachIsReceiptOfOneCall
each_is_receipt_of_one_call records passes h full n low high =
    let book = record_at 1 records in
    let made = length records in
    let inside : All (λ m. (1 ≤ m) × (m ≤ made)) (all_numbers passes) = all_numbers_all (λ m. (1 ≤ m) × (m ≤ made)) passes (λ i p l k r m. number_within records (get_or (get_or passes i p) k r).number (get_or (get_or passes i p) k r) (h.are_records i p l k r m)) in
    let there = earlier_from passes n (fills made (all_numbers passes) (all_numbers_differ passes h.rise h.apart) inside (length-all_numbers passes ∙ full) n low high) in
    let is = all_here (λ r. book r.number ≡ Some r) there.1 there.3.0 there.3.1 (all_here (AreRecordsOf book) passes there.0 there.1 h.are_records there.2) there.3.2 in record {
      pass = there.0;
      place = there.3.0;
      receipts = there.1;
      receipt = there.3.1;
      in_pass = there.2;
      at_place = there.3.2;
      number = there.3.3;
      is = subst (λ m. book m ≡ Some there.3.1) there.3.3 is;
      only = λ i k p r e f g. once i k p r there.0 there.3.0 there.1 there.3.1 e f g there.2 there.3.2 there.3.3;
    }
  where
    once : (i k : ℕ) (p : List Record) (r : Record) (j m : ℕ) (q : List Record) (s : Record) → slice_get passes i ≡ Some p → slice_get p k ≡ Some r → r.number ≡ n → slice_get passes j ≡ Some q → slice_get q m ≡ Some s → s.number ≡ n → (i ≡ j) × (k ≡ m)
    once i k p r j m q s e f g e' f' g' = by_pass (order i j)
      where
        place : i ≡ j → p ≡ q → Order k m → (i ≡ j) × (k ≡ m)
        place is same (inl l) = let less = rising p k m r s (all_here NumbersRise passes i p h.rise e) l f (subst (λ z. slice_get z m ≡ Some s) (sym same) f') in absurd (omega arith)
        place is same (inr (inl l)) = (is, l)
        place is same (inr (inr l)) = let less = rising p m k s r (all_here NumbersRise passes i p h.rise e) l (subst (λ z. slice_get z m ≡ Some s) (sym same) f') f in absurd (omega arith)

        by_pass : Order i j → (i ≡ j) × (k ≡ m)
        by_pass (inl l) = absurd (pairs_at ShareNoNumber passes i j p q h.apart l e e' n (k, r, f, g) (m, s, f', g'))
        by_pass (inr (inl l)) =
            let both : Some p ≡ Some q = sym e ∙ (ap (slice_get passes) l ∙ e') in
            let same : p ≡ q = cc in
            place l same (order k m)
        by_pass (inr (inr l)) = absurd (pairs_at ShareNoNumber passes j i q p h.apart l e' e n (m, s, f', g') (k, r, f, g))
