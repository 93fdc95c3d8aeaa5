use Rattle.std.proofs.Common.{◌≡◌, ◌≢◌, ℕ, zero, suc, ◌+◌, ◌<◌, ◌≤◌, ◌⊎◌, ⊎_elim, inl, inr, ◌-◌, List, [], ◌∷◌, ◌++◌, length, get_or, take, drop, append_assoc, add-one, Option, Some, None, subst, sym, ap, refl, arith, ◌∙◌, length-append}
use Rattle.std.specs.Prelude.{slice_get}
use Rattle.std.specs.List.{All, AllPairs}
use Rattle.std.proofs.lemmas.List.Elements.{All-push, All-pop}
use Rattle.std.proofs.lemmas.List.Quantifiers.{all_pairs_push}
use Rattle.std.proofs.lemmas.Option.{get_or_from_slice_get, slice_get-get_or, slice_get_read}
use Rattle.record_core.specs.declared.record.Record.{Record}
use Rattle.desk_core.specs.Receipts.{AreRecordsOf, NumbersRise, HasNumber, ShareNoNumber, AreReceipts, AreBelow, HasEarlier, IsFaultOf, IsFirstFault}
use Rattle.desk_core.specs.declared.receipts.SettleFault.{SettleFault}
use Rattle.desk_core.specs.declared.receipts.SettleFault.TheVariants.{WrongReceipt, Twice}

at_front : {X : Type 0} (xs : List X) (y : X) (k : ℕ) (d : X) → k < length xs → get_or (xs ++ y ∷ []) k d ≡ get_or xs k d
at_front [] y k d h = absurd (omega arith)
at_front (x ∷ xs) y zero d h = refl
at_front (x ∷ xs) y (suc k) d h = at_front xs y k d (omega arith)

at_back : {X : Type 0} (xs : List X) (y : X) (d : X) → get_or (xs ++ y ∷ []) (length xs) d ≡ y
at_back [] y d = refl
at_back (x ∷ xs) y d = at_back xs y d

-- the pairs of a list with one more element
all_pairs_front : {X : Type 0} (R : X → X → Type 0) (xs : List X) (y : X) → AllPairs R (xs ++ y ∷ []) → AllPairs R xs
all_pairs_front {X} R xs y h i j d l m =
    let long = length-append xs (y ∷ []) in
    let both = h i j d l (omega arith) in
    subst (λ (a : X). R a (get_or xs j d)) (at_front xs y i d (omega arith)) (subst (λ (b : X). R (get_or (xs ++ y ∷ []) i d) b) (at_front xs y j d m) both)

all_pairs_back : {X : Type 0} (R : X → X → Type 0) (xs : List X) (y : X) → AllPairs R (xs ++ y ∷ []) → (k : ℕ) (d : X) → k < length xs → R (get_or xs k d) y
all_pairs_back {X} R xs y h k d l =
    let long = length-append xs (y ∷ []) in
    let both = h k (length xs) d l (omega arith) in
    subst (λ (a : X). R a y) (at_front xs y k d l) (subst (λ (b : X). R (get_or (xs ++ y ∷ []) k d) b) (at_back xs y d) both)

-- a number of a part with one more record
has_push : (xs : List Record) (r : Record) (n : ℕ) → HasNumber (xs ++ r ∷ []) n → HasNumber xs n ⊎ (r.number ≡ n)
has_push xs r n h = go xs h.0 h.2
  where
    go : (ys : List Record) (k : ℕ) → slice_get (ys ++ r ∷ []) k ≡ Some h.1 → HasNumber ys n ⊎ (r.number ≡ n)
    go [] zero e = let same : r ≡ h.1 = cc in inr (ap (λ (x : Record). x.number) same ∙ h.3)
    go [] (suc k) e = absurd cc
    go (y ∷ ys) zero e = inl (0, h.1, e, h.3)
    go (y ∷ ys) (suc k) e = ⊎_elim (λ (t : HasNumber ys n). inl (suc t.0, t.1, t.2, t.3)) (λ (t : r.number ≡ n). inr t) (go ys k e)

-- what is kept, with one more receipt of the last pass
pub kept_more : (book : ℕ → Option Record) (ps : List (List Record)) (xs : List Record) (r : Record) → AreReceipts book (ps ++ xs ∷ []) → book r.number ≡ Some r → AreBelow xs r.number → (HasEarlier ps r.number → ⊥) → AreReceipts book (ps ++ (xs ++ r ∷ []) ∷ [])
kept_more book ps xs r h is above new =
    let are_records = All-pop (AreRecordsOf book) (ps ++ xs ∷ []) ps (Some xs) refl h.are_records in
    let rise = All-pop NumbersRise (ps ++ xs ∷ []) ps (Some xs) refl h.rise in record {
      are_records = All-push (AreRecordsOf book) ps (xs ++ r ∷ []) are_records.0 (All-push (λ s. book s.number ≡ Some s) xs r are_records.1 is);
      rise = All-push NumbersRise ps (xs ++ r ∷ []) rise.0 (all_pairs_push (λ s t. s.number < t.number) xs r rise.1 above);
      apart = all_pairs_push ShareNoNumber ps (xs ++ r ∷ []) (all_pairs_front ShareNoNumber ps xs h.apart) none;
    }
  where
    none : (k : ℕ) (d : List Record) → k < length ps → ShareNoNumber (get_or ps k d) (xs ++ r ∷ [])
    none k d l n one two = ⊎_elim
        (λ (t : HasNumber xs n). all_pairs_back ShareNoNumber ps xs h.apart k d l n one t)
        (λ (t : r.number ≡ n). new (k, get_or ps k d, slice_get-get_or ps k d l, subst (λ m. HasNumber (get_or ps k d) m) (sym t) one))
        (has_push xs r n two)

-- what is kept, with one more pass of which nothing is checked yet
pub kept_next : (book : ℕ → Option Record) (ps : List (List Record)) → AreReceipts book ps → AreReceipts book (ps ++ [] ∷ [])
kept_next book ps h = record {
  are_records = All-push (AreRecordsOf book) ps [] h.are_records (λ k d l. absurd (omega arith));
  rise = All-push NumbersRise ps [] h.rise (λ i j d l m. absurd (omega arith));
  apart = all_pairs_push ShareNoNumber ps [] h.apart (λ k d l n one two. let e : None ≡ Some two.1 = two.2 in absurd cc);
}

pub kept_none : (book : ℕ → Option Record) → AreReceipts book []
kept_none book = record {
  are_records = λ k d l. absurd (omega arith);
  rise = λ k d l. absurd (omega arith);
  apart = λ i j d l m. absurd (omega arith);
}

read : {X : Type 0} (xs : List X) (i : ℕ) (d x : X) → i < length xs → get_or xs i x ≡ x → get_or xs i d ≡ x
read xs i d x l is = get_or_from_slice_get xs i x d (slice_get_read xs (length xs) i x refl l (sym is))

-- a number above the last of rising numbers is above them all
pub above_last : (xs : List Record) (last : Record) (n : ℕ) → NumbersRise xs → 0 < length xs → get_or xs (length xs - 1) last ≡ last → last.number < n → AreBelow xs n
above_last xs last n h some is less k d l = by_place (order_cases k (length xs - 1))
  where
    order_cases : (i j : ℕ) → (i < j) ⊎ (j ≤ i)
    order_cases i zero = inr (omega arith)
    order_cases zero (suc j) = inl (omega arith)
    order_cases (suc i) (suc j) = ⊎_elim (λ (t : i < j). inl (omega arith)) (λ (t : j ≤ i). inr (omega arith)) (order_cases i j)

    by_place : (k < length xs - 1) ⊎ (length xs - 1 ≤ k) → (get_or xs k d).number < n
    by_place (inl q) =
        let rise : (get_or xs k d).number < (get_or xs (length xs - 1) d).number = h k (length xs - 1) d q (omega arith) in
        let e : (get_or xs (length xs - 1) d).number ≡ last.number = ap (λ (r : Record). r.number) (read xs (length xs - 1) d last (omega arith) is) in
        omega arith
    by_place (inr q) =
        let at : k ≡ length xs - 1 = omega arith in
        let e : (get_or xs k d).number ≡ last.number = ap (λ (r : Record). r.number) (ap (λ z. get_or xs z d) at ∙ read xs (length xs - 1) d last (omega arith) is) in
        omega arith

-- the three faults
pub bad_differs : (book : ℕ → Option Record) (before : List (List Record)) (part : List Record) (r s : Record) → book r.number ≡ Some s → s ≢ r → IsFaultOf book before part r (WrongReceipt r.number)
bad_differs book before part r s is other = (refl, (λ e. let e' : None ≡ Some s = sym e ∙ is in cc), inl (λ e. let e' : Some s ≡ Some r = sym is ∙ e in other cc))

pub bad_order : (book : ℕ → Option Record) (before : List (List Record)) (part : List Record) (r s : Record) → book r.number ≡ Some s → (AreBelow part r.number → ⊥) → IsFaultOf book before part r (WrongReceipt r.number)
bad_order book before part r s is low = (refl, (λ e. let e' : None ≡ Some s = sym e ∙ is in cc), inr low)

pub bad_twice : (book : ℕ → Option Record) (before : List (List Record)) (part : List Record) (r s : Record) → book r.number ≡ Some s → s ≡ r → AreBelow part r.number → HasEarlier before r.number → IsFaultOf book before part r (Twice r.number)
bad_twice book before part r s is same above earlier = (refl, (is ∙ ap (λ x. Some x) same), above, earlier)

pub kept_receipt : (book : ℕ → Option Record) (ps : List (List Record)) (xs : List Record) (r s : Record) → AreReceipts book (ps ++ xs ∷ []) → book r.number ≡ Some s → s ≡ r → AreBelow xs r.number → (HasEarlier ps r.number → ⊥) → AreReceipts book (ps ++ (xs ++ r ∷ []) ∷ [])
kept_receipt book ps xs r s h is same above new = kept_more book ps xs r h (is ∙ ap (λ x. Some x) same) above new

split_suc : {X : Type 0} (xs : List X) (i : ℕ) (x : X) → slice_get xs i ≡ Some x → xs ≡ take i xs ++ x ∷ drop (suc i) xs
split_suc [] i x e = let e' : None ≡ Some x = e in absurd cc
split_suc (y ∷ ys) zero x e = let same : y ≡ x = cc in rw same refl
split_suc (y ∷ ys) (suc i) x e = ap (λ zs. y ∷ zs) (split_suc ys i x e)

split_at : {X : Type 0} (xs : List X) (i : ℕ) (x : X) → slice_get xs i ≡ Some x → xs ≡ take i xs ++ x ∷ drop (i + 1) xs
split_at xs i x e = split_suc xs i x e ∙ ap (λ k. take i xs ++ x ∷ drop k xs) (sym (add-one i))

-- a bad receipt of the pass that follows kept ones
pub first_fault : (book : ℕ → Option Record) (before : List (List Record)) (pass : List Record) (i : ℕ) (r : Record) (f : SettleFault) → slice_get pass i ≡ Some r → AreReceipts book (before ++ take i pass ∷ []) → IsFaultOf book before (take i pass) r f → IsFirstFault book (before ++ pass ∷ []) f
first_fault book before pass i r f at kept bad = record {
  before = before;
  part = take i pass;
  receipt = r;
  rest = drop (i + 1) pass;
  after = [];
  is = ap (λ p. before ++ p ∷ []) (split_at pass i r at);
  kept = kept;
  bad = bad;
}

-- further passes don't change which is the first
pub first_fault-append : (book : ℕ → Option Record) (passes more : List (List Record)) (f : SettleFault) → IsFirstFault book passes f → IsFirstFault book (passes ++ more) f
first_fault-append book passes more f h = record {
  before = h.before;
  part = h.part;
  receipt = h.receipt;
  rest = h.rest;
  after = h.after ++ more;
  is = ap (λ ps. ps ++ more) h.is ∙ append_assoc h.before ((h.part ++ h.receipt ∷ h.rest) ∷ h.after) more;
  kept = h.kept;
  bad = h.bad;
}

pub first_fault-in : (book : ℕ → Option Record) (passes : List (List Record)) (i : ℕ) (pass : List Record) (f : SettleFault) → slice_get passes i ≡ Some pass → IsFirstFault book (take i passes ++ pass ∷ []) f → IsFirstFault book passes f
first_fault-in book passes i pass f at h =
    let longer = first_fault-append book (take i passes ++ pass ∷ []) (drop (i + 1) passes) f h in
    subst (λ ps. IsFirstFault book ps f) (append_assoc (take i passes) (pass ∷ []) (drop (i + 1) passes) ∙ sym (split_at passes i pass at)) longer

-- each pass of those before rises
pub rise_before : (book : ℕ → Option Record) (ps : List (List Record)) (xs : List Record) → AreReceipts book (ps ++ xs ∷ []) → All NumbersRise ps
rise_before book ps xs h = (All-pop NumbersRise (ps ++ xs ∷ []) ps (Some xs) refl h.rise).0

pub rise_last : (book : ℕ → Option Record) (ps : List (List Record)) (xs : List Record) → AreReceipts book (ps ++ xs ∷ []) → NumbersRise xs
rise_last book ps xs h = (All-pop NumbersRise (ps ++ xs ∷ []) ps (Some xs) refl h.rise).1

pub above_none : (xs : List Record) (n : ℕ) → length xs ≡ 0 → AreBelow xs n
above_none xs n h k d l = absurd (omega arith)

pub last_below : (xs : List Record) (last : Record) (n : ℕ) → 0 < length xs → get_or xs (length xs - 1) last ≡ last → AreBelow xs n → last.number < n
last_below xs last n some is above =
    let m : (get_or xs (length xs - 1) last).number < n = above (length xs - 1) last (omega arith) in
    let e : (get_or xs (length xs - 1) last).number ≡ last.number = ap (λ (x : Record). x.number) is in
    omega arith
