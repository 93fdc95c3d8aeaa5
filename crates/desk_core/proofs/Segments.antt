-- Records in segments.
use Rattle.std.proofs.Common.{◌≡◌, ◌∙◌, ◌⊎◌, ⊎_elim, inl, inr, ℕ, zero, suc, ◌+◌, ◌-◌, ◌<◌, ◌≤◌, List, [], ◌∷◌, ◌++◌, length, get_or, Option, Some, None, Bool, true, false, refl, ap, sym, subst, arith, append_assoc, length-append}
use Rattle.std.specs.Prelude.{nat_lt, slice_get, if◌then◌else◌}
use Rattle.std.specs.Option.{option_or}
use Rattle.std.proofs.lemmas.Bool.Decides.{Decides-ltb}
use Rattle.std.proofs.lemmas.Option.{slice_get_past, slice_get_cases}
use Rattle.record_core.specs.declared.record.Record.{Record}
use Rattle.record_core.specs.declared.segment.Segment.{Segment}
use Rattle.record_core.specs.Records.{joined, AreChained}
use Rattle.desk_core.specs.Receipts.{record_at, record_in, record_listed, IsChain}

order : (i j : ℕ) → (i < j) ⊎ (j ≤ i)
order i zero = inr (omega arith)
order zero (suc j) = inl (omega arith)
order (suc i) (suc j) = ⊎_elim (λ (l : i < j). inl (omega arith)) (λ (l : j ≤ i). inr (omega arith)) (order i j)

-- where the number is below the first, and where it is not
pub at_below : (first : ℕ) (records : List Record) (n : ℕ) → n < first → record_at first records n ≡ None
at_below first records n less = ap (λ (b : Bool). if b then None else slice_get records (n - first)) ((Decides-ltb n first).1 less)

not_below : (first n : ℕ) → first ≤ n → nat_lt n first ≡ false
not_below first n le = by_test (nat_lt n first) refl
  where
    by_test : (b : Bool) → nat_lt n first ≡ b → nat_lt n first ≡ false
    by_test true e = let l : n < first = (Decides-ltb n first).0 e in absurd (omega arith)
    by_test false e = e

pub at_from : (first : ℕ) (records : List Record) (n : ℕ) → first ≤ n → record_at first records n ≡ slice_get records (n - first)
at_from first records n le = ap (λ (b : Bool). if b then None else slice_get records (n - first)) (not_below first n le)

-- none where the number is past the last
pub at_past : (first : ℕ) (records : List Record) (n : ℕ) → first + length records ≤ n → record_at first records n ≡ None
at_past first records n le = at_from first records n (omega arith) ∙ slice_get_past records (n - first) (omega arith)

-- none of the segments at the places from `low` on and below `high` has the number
abbrev pub HaveNone : List Segment → ℕ → ℕ → ℕ → Type 0
HaveNone segments n low high = (k : ℕ) (s : Segment) → low ≤ k → k < high → slice_get segments k ≡ Some s → record_at s.first s.records n ≡ None

-- where the segments before one don't have the number, what that one has is the record
pub listed_here : (segments : List Segment) (n m : ℕ) (s : Segment) (r : Record) → HaveNone segments n 0 m → slice_get segments m ≡ Some s → record_at s.first s.records n ≡ Some r → record_listed segments n ≡ Some r
listed_here [] n m s r none at is = let no : None ≡ Some s = at in absurd cc
listed_here (t ∷ segments) n zero s r none at is =
    let same : t ≡ s = cc in
    ap (λ (o : Option Record). option_or o (record_listed segments n)) (ap (λ (x : Segment). record_at x.first x.records n) same ∙ is)
listed_here (t ∷ segments) n (suc m) s r none at is =
    ap (λ (o : Option Record). option_or o (record_listed segments n)) (none 0 t (omega arith) (omega arith) refl)
    ∙ listed_here segments n m s r (λ k u low high e. none (suc k) u (omega arith) (omega arith) e) at is

pub listed_none : (segments : List Segment) (n : ℕ) → HaveNone segments n 0 (length segments) → record_listed segments n ≡ None
listed_none [] n none = refl
listed_none (t ∷ segments) n none =
    ap (λ (o : Option Record). option_or o (record_listed segments n)) (none 0 t (omega arith) (omega arith) refl)
    ∙ listed_none segments n (λ k u low high e. none (suc k) u (omega arith) (omega arith) e)

-- segments in a chain begin at its first number or above
chained_above : (first : ℕ) (segments : List Segment) (k : ℕ) (s : Segment) → AreChained first segments → slice_get segments k ≡ Some s → first ≤ s.first
chained_above first [] k s chain at = let no : None ≡ Some s = at in absurd cc
chained_above first (t ∷ segments) zero s chain at =
    let same : t ≡ s = cc in
    let begins : t.first ≡ s.first = ap (λ (x : Segment). x.first) same in
    omega (arith, chain.0, begins)
chained_above first (t ∷ segments) (suc k) s chain at =
    let rest = chained_above (first + length t.records) segments k s chain.1 at in
    omega (arith, rest)

-- of two segments in a chain the later begins at the end of the earlier or above
chained_pair : (first : ℕ) (segments : List Segment) (j k : ℕ) (s t : Segment) → AreChained first segments → j < k → slice_get segments j ≡ Some s → slice_get segments k ≡ Some t → s.first + length s.records ≤ t.first
chained_pair first [] j k s t chain less at to = let no : None ≡ Some s = at in absurd cc
chained_pair first (u ∷ segments) j zero s t chain less at to = absurd (omega arith)
chained_pair first (u ∷ segments) zero (suc k) s t chain less at to =
    let same : u ≡ s = cc in
    let ends : u.first + length u.records ≡ s.first + length s.records = ap (λ (x : Segment). x.first + length x.records) same in
    let above = chained_above (first + length u.records) segments k t chain.1 to in
    omega (arith, chain.0, ends, above)
chained_pair first (u ∷ segments) (suc j) (suc k) s t chain less at to =
    chained_pair (first + length u.records) segments j k s t chain.1 (omega arith) at to

-- in a chain no segment before one that begins at the number or below has it
pub none_before : (first : ℕ) (segments : List Segment) (n m : ℕ) (s : Segment) → AreChained first segments → slice_get segments m ≡ Some s → s.first ≤ n → HaveNone segments n 0 m
none_before first segments n m s chain at le k t low high e =
    let ends = chained_pair first segments k m t s chain high e at in
    at_past t.first t.records n (omega (arith, ends))

-- in a chain no segment has it from one on that begins above the number
pub none_from : (first : ℕ) (segments : List Segment) (n m : ℕ) (s : Segment) → AreChained first segments → slice_get segments m ≡ Some s → n < s.first → HaveNone segments n m (length segments)
none_from first segments n m s chain at less k t low high e = by_place (order m k)
  where
    by_place : (m < k) ⊎ (k ≤ m) → record_at t.first t.records n ≡ None
    by_place (inr no_later) =
        let is : m ≡ k = omega arith in
        let both : Some s ≡ Some t = sym at ∙ (ap (slice_get segments) is ∙ e) in
        let same : s ≡ t = cc in
        let begins : s.first ≡ t.first = ap (λ (x : Segment). x.first) same in
        at_below t.first t.records n (omega arith)
    by_place (inl later) =
        let ends = chained_pair first segments m k s t chain later at e in
        at_below t.first t.records n (omega (arith, ends))

-- one segment more
pub none_more : (segments : List Segment) (n m : ℕ) (s : Segment) → HaveNone segments n 0 m → slice_get segments m ≡ Some s → record_at s.first s.records n ≡ None → HaveNone segments n 0 (m + 1)
none_more segments n m s none at is k t low high e = by_place (order k m)
  where
    by_place : (k < m) ⊎ (m ≤ k) → record_at t.first t.records n ≡ None
    by_place (inr no_less) =
        let same : k ≡ m = omega arith in
        let both : Some s ≡ Some t = sym at ∙ (ap (slice_get segments) (sym same) ∙ e) in
        let one : s ≡ t = cc in
        ap (λ (x : Segment). record_at x.first x.records n) (sym one) ∙ is
    by_place (inl less) = none k t low less e

-- what a search by halving knows
pub record Sought (segments : List Segment) (n low high : ℕ) : Type 0 where
  pub order : (low ≤ high) × (high ≤ length segments)
  pub below : HaveNone segments n 0 low
  pub above : HaveNone segments n high (length segments)

pub sought_all : (segments : List Segment) (n : ℕ) → Sought segments n 0 (length segments)
sought_all segments n = record {
  order = omega arith;
  below = λ k s low high e. absurd (omega arith);
  above = λ k s low high e. absurd (omega arith);
}

pub sought_up : (first : ℕ) (segments : List Segment) (n low high m : ℕ) (s : Segment) → AreChained first segments → Sought segments n low high → m < high → slice_get segments m ≡ Some s → s.first ≤ n → record_at s.first s.records n ≡ None → Sought segments n (m + 1) high
sought_up first segments n low high m s chain known less at le is = record {
  order = omega (arith, known.order);
  below = none_more segments n m s (none_before first segments n m s chain at le) at is;
  above = known.above;
}

pub sought_down : (first : ℕ) (segments : List Segment) (n low high m : ℕ) (s : Segment) → AreChained first segments → Sought segments n low high → low ≤ m → m < high → slice_get segments m ≡ Some s → n < s.first → Sought segments n low m
sought_down first segments n low high m s chain known le less at below = record {
  order = omega (arith, known.order);
  below = known.below;
  above = none_from first segments n m s chain at below;
}

pub sought_none : (segments : List Segment) (n low high : ℕ) → Sought segments n low high → high ≤ low → record_listed segments n ≡ None
sought_none segments n low high known le = listed_none segments n all
  where
    all : HaveNone segments n 0 (length segments)
    all k s from to e = by_place (order k low)
      where
        by_place : (k < low) ⊎ (low ≤ k) → record_at s.first s.records n ≡ None
        by_place (inl l) = known.below k s from l e
        by_place (inr l) = known.above k s (omega (arith, known.order, l, le)) to e

-- each of the first segments follows the one before it
abbrev pub InARow : List Segment → ℕ → Type 0
InARow segments i = (k : ℕ) (s t : Segment) → k + 1 < i → slice_get segments k ≡ Some s → slice_get segments (k + 1) ≡ Some t → t.first ≡ s.first + length s.records

pub in_a_row_more : (segments : List Segment) (i : ℕ) (s t : Segment) → 1 ≤ i → InARow segments i → slice_get segments (i - 1) ≡ Some s → slice_get segments i ≡ Some t → t.first ≡ s.first + length s.records → InARow segments (i + 1)
in_a_row_more segments i s t some row at to next k u v less e f = by_place (order (k + 1) i)
  where
    by_place : (k + 1 < i) ⊎ (i ≤ k + 1) → v.first ≡ u.first + length u.records
    by_place (inl l) = row k u v l e f
    by_place (inr l) =
        let here : i - 1 ≡ k = omega arith in
        let there : i ≡ k + 1 = omega arith in
        let one : Some s ≡ Some u = sym at ∙ (ap (slice_get segments) here ∙ e) in
        let two : Some t ≡ Some v = sym to ∙ (ap (slice_get segments) there ∙ f) in
        let s_is : s ≡ u = cc in
        let t_is : t ≡ v = cc in
        ap (λ (x : Segment). x.first) (sym t_is) ∙ next ∙ ap (λ (x : Segment). x.first + length x.records) s_is

in_a_row_rest : (s : Segment) (segments : List Segment) → InARow (s ∷ segments) (length (s ∷ segments)) → InARow segments (length segments)
in_a_row_rest s segments follows k u v less e f =
    let at : slice_get (s ∷ segments) (suc k + 1) ≡ Some v = let n : suc k + 1 ≡ suc (k + 1) = omega arith in ap (slice_get (s ∷ segments)) n ∙ f in
    follows (suc k) u v (omega arith) e at

in_a_row_from : (s : Segment) (segments : List Segment) → InARow (s ∷ segments) (length (s ∷ segments)) → AreChained (s.first + length s.records) segments
in_a_row_from s [] follows = tt
in_a_row_from s (t ∷ segments) follows =
    let begins : t.first ≡ s.first + length s.records = follows 0 s t (omega arith) refl refl in
    (begins, subst (λ (f : ℕ). AreChained (f + length t.records) segments) begins (in_a_row_from t segments (in_a_row_rest s (t ∷ segments) follows)))

pub in_a_row_chained : (segments : List Segment) → InARow segments (length segments) → IsChain segments
in_a_row_chained [] follows = (0, tt)
in_a_row_chained (s ∷ segments) follows = (s.first, (refl, in_a_row_from s segments follows))

-- of two neighbours in a chain the second begins at the end of the first
pub chained_next : (first : ℕ) (segments : List Segment) (k : ℕ) (s t : Segment) → AreChained first segments → slice_get segments k ≡ Some s → slice_get segments (k + 1) ≡ Some t → t.first ≡ s.first + length s.records
chained_next first [] k s t chain at to = let no : None ≡ Some s = at in absurd cc
chained_next first (u ∷ segments) zero s t chain at to = starts segments chain.1 to
  where
    same : u ≡ s
    same = cc at

    starts : (rest : List Segment) → AreChained (first + length u.records) rest → slice_get (u ∷ rest) (zero + 1) ≡ Some t → t.first ≡ s.first + length s.records
    starts [] next there = let no : None ≡ Some t = there in absurd cc
    starts (v ∷ rest) next there =
        let both : v ≡ t = cc in
        let begins : v.first ≡ t.first = ap (λ (x : Segment). x.first) both in
        let ends : u.first + length u.records ≡ s.first + length s.records = ap (λ (x : Segment). x.first + length x.records) same in
        omega (arith, chain.0, next.0, begins, ends)
chained_next first (u ∷ segments) (suc k) s t chain at to =
    let n : suc k + 1 ≡ suc (k + 1) = omega arith in
    chained_next (first + length u.records) segments k s t chain.1 at (sym (ap (slice_get (u ∷ segments)) n) ∙ to)

-- records in a row, and more of them
at_front : (xs ys : List Record) (k : ℕ) → k < length xs → slice_get (xs ++ ys) k ≡ slice_get xs k
at_front [] ys k less = absurd (omega arith)
at_front (x ∷ xs) ys zero less = refl
at_front (x ∷ xs) ys (suc k) less = at_front xs ys k (omega arith)

at_back : (xs ys : List Record) (k : ℕ) → slice_get (xs ++ ys) (length xs + k) ≡ slice_get ys k
at_back [] ys k = let e : length {A = Record} [] + k ≡ k = omega arith in ap (slice_get ys) e
at_back (x ∷ xs) ys k =
    let e : length (x ∷ xs) + k ≡ suc (length xs + k) = omega arith in
    ap (slice_get (x ∷ (xs ++ ys))) e ∙ at_back xs ys k

-- a record of records in two parts
at_parts : (first : ℕ) (xs ys : List Record) (n : ℕ) → record_at first (xs ++ ys) n ≡ option_or (record_at first xs n) (record_at (first + length xs) ys n)
at_parts first xs ys n = by_first (order n first)
  where
    by_length : first ≤ n → ((x : Record) × (n - first < length xs) × (slice_get xs (n - first) ≡ Some x) × (get_or xs (n - first) x ≡ x)) ⊎ ((length xs ≤ n - first) × (slice_get xs (n - first) ≡ None)) → record_at first (xs ++ ys) n ≡ option_or (record_at first xs n) (record_at (first + length xs) ys n)
    by_length le (inl found) =
        at_from first (xs ++ ys) n le ∙ at_front xs ys (n - first) found.1 ∙ found.2
        ∙ sym (ap (λ (o : Option Record). option_or o (record_at (first + length xs) ys n)) (at_from first xs n le ∙ found.2))
    by_length le (inr past) =
        let more = past.0 in
        let e : n - first ≡ length xs + (n - (first + length xs)) = omega arith in
        at_from first (xs ++ ys) n le ∙ ap (slice_get (xs ++ ys)) e ∙ at_back xs ys (n - (first + length xs))
        ∙ sym (at_from (first + length xs) ys n (omega arith))
        ∙ sym (ap (λ (o : Option Record). option_or o (record_at (first + length xs) ys n)) (at_past first xs n (omega arith)))

    by_first : (n < first) ⊎ (first ≤ n) → record_at first (xs ++ ys) n ≡ option_or (record_at first xs n) (record_at (first + length xs) ys n)
    by_first (inl less) =
        at_below first (xs ++ ys) n less
        ∙ sym (ap (λ (o : Option Record). option_or o (record_at (first + length xs) ys n)) (at_below first xs n less) ∙ at_below (first + length xs) ys n (omega arith))
    by_first (inr le) = by_length le (slice_get_cases xs (n - first)).1

or_assoc : (a b c : Option Record) → option_or (option_or a b) c ≡ option_or a (option_or b c)
or_assoc None b c = refl
or_assoc (Some x) b c = refl

-- segments in a chain and then a journal are one row of records
pub in_joined : (segments : List Segment) (first last : ℕ) (journal : List Record) → AreChained first segments → last ≡ first + length (joined segments) → (n : ℕ) → record_in segments last journal n ≡ record_at first (joined segments ++ journal) n
in_joined [] first last journal chain next n = let e : last ≡ first = omega (arith, next) in ap (λ (f : ℕ). record_at f journal n) e
in_joined (s ∷ segments) first last journal chain next n =
    let long = length-append s.records (joined segments) in
    let here : record_at s.first s.records n ≡ record_at first s.records n = ap (λ (f : ℕ). record_at f s.records n) chain.0 in
    let rest = in_joined segments (first + length s.records) last journal chain.1 (omega (arith, next, long)) n in
    or_assoc (record_at s.first s.records n) (record_listed segments n) (record_at last journal n)
    ∙ ap (λ (o : Option Record). option_or o (option_or (record_listed segments n) (record_at last journal n))) here
    ∙ ap (λ (o : Option Record). option_or (record_at first s.records n) o) rest
    ∙ sym (at_parts first s.records (joined segments ++ journal) n)
    ∙ ap (λ (l : List Record). record_at first l n) (sym (append_assoc s.records (joined segments) journal))

-- the record of a number in a journal before which so many records were made
pub at_after : (before : ℕ) (journal : List Record) (n : ℕ) → record_at 1 journal (n - before) ≡ record_at (before + 1) journal n
at_after before journal n = by_first (order n (before + 1))
  where
    by_first : (n < before + 1) ⊎ (before + 1 ≤ n) → record_at 1 journal (n - before) ≡ record_at (before + 1) journal n
    by_first (inl less) = at_below 1 journal (n - before) (omega arith) ∙ sym (at_below (before + 1) journal n less)
    by_first (inr le) =
        let e : n - before - 1 ≡ n - (before + 1) = omega arith in
        at_from 1 journal (n - before) (omega arith) ∙ ap (slice_get journal) e ∙ sym (at_from (before + 1) journal n le)
