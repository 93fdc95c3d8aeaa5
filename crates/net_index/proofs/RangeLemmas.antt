-- Ranges that are apart.
use Rattle.std.proofs.lemmas.List.{get_or-map, length-map, take_all, take_more}
use Rattle.std.proofs.Common.{◌≡◌, map, take, drop, ℕ, zero, suc, ◌+◌, ◌-◌, ◌<◌, ◌≤◌, Bool, true, false, List, [], ◌∷◌, ◌++◌, length, get_or, max, leb-true, refl, sym, ap, subst, ◌∙◌, arith}
use Rattle.std.specs.Prelude.{nat_le, ◌&&◌, ◌||◌}
use Rattle.std.specs.List.{AllByRecursion, list_any}
use Rattle.std.specs.List.Sorted.{IsNonDecreasingBy, IsPartitionPoint}
use lib.Dec.{leb}
use Rattle.std.proofs.lemmas.Bool.Decides.{nat_tests}
use Rattle.std.proofs.lemmas.List.Folds.{list_any-append}
use Rattle.std.proofs.lemmas.List.Sorted.{IsNonDecreasingBy-from_all_adjacent}
use Rattle.net_index.specs.declared.range.Range.{Range}
use Rattle.net_index.specs.declared.range.Short.{Short}
use Rattle.net_index.specs.Ranges.{covers, is_within, wide, AreApart, BeginBefore, IsBefore}

all_push : {X : Type 0} (P : X → Type 0) (xs : List X) (x : X) → AllByRecursion P xs → P x → AllByRecursion P (xs ++ x ∷ [])
all_push P [] x all is = (is, tt)
all_push P (y ∷ ys) x all is = (all.0, all_push P ys x all.1 is)

all_front : {X : Type 0} (P : X → Type 0) (xs : List X) (x : X) → AllByRecursion P (xs ++ x ∷ []) → AllByRecursion P xs
all_front P [] x all = tt
all_front P (y ∷ ys) x all = (all.0, all_front P ys x all.1)

all_last : {X : Type 0} (P : X → Type 0) (xs : List X) (x : X) → AllByRecursion P (xs ++ x ∷ []) → P x
all_last P [] x all = all.0
all_last P (y ∷ ys) x all = all_last P ys x all.1

all_more : {X : Type 0} {P Q : X → Type 0} → ((x : X) → P x → Q x) → (xs : List X) → AllByRecursion P xs → AllByRecursion Q xs
all_more more [] all = tt
all_more more (x ∷ xs) all = (more x all.0, all_more more xs all.1)

-- One range more at the end.

apart_front : (xs : List Range) (last : Range) → AreApart (xs ++ last ∷ []) → AreApart xs
apart_front [] last apart = tt
apart_front (x ∷ xs) last apart = (all_front (IsBefore x) xs last apart.0, apart_front xs last apart.1)

before_last : (xs : List Range) (last : Range) → AreApart (xs ++ last ∷ []) → AllByRecursion (λ x. IsBefore x last) xs
before_last [] last apart = tt
before_last (x ∷ xs) last apart = (all_last (IsBefore x) xs last apart.0, before_last xs last apart.1)

apart_push : (xs : List Range) (range : Range) → AreApart xs → AllByRecursion (λ x. IsBefore x range) xs → AreApart (xs ++ range ∷ [])
apart_push [] range apart before = (tt, tt)
apart_push (x ∷ xs) range apart before = (all_push (IsBefore x) xs range apart.0 before.0, apart_push xs range apart.1 before.1)

-- the last range, which another one meets, is changed
pub joined_apart : (xs : List Range) (last next : Range) → next.first ≡ last.first → AreApart (xs ++ last ∷ []) → AreApart (xs ++ next ∷ [])
joined_apart xs last next same apart =
    apart_push xs next (apart_front xs last apart)
    (all_more {P = λ x. IsBefore x last} {Q = λ x. IsBefore x next}
    (λ x before. record { begins = let b = before.begins in omega (arith, b, same); ends = let e = before.ends in omega (arith, e, same) }) xs (before_last xs last apart))

pub joined_rise : (n : ℕ) (xs : List Range) (last next : Range) → next.first ≡ last.first → BeginBefore n (xs ++ last ∷ []) → BeginBefore n (xs ++ next ∷ [])
joined_rise n xs last next same rise =
    all_push (λ range. range.first ≤ n) xs next (all_front (λ range. range.first ≤ n) xs last rise)
    (let own : last.first ≤ n = all_last (λ range. range.first ≤ n) xs last rise in omega (arith, own, same))

-- a range that begins after the last one ends
pub added_apart : (xs : List Range) (last next : Range) → last.last < next.first → AreApart (xs ++ last ∷ []) → BeginBefore next.first (xs ++ last ∷ []) → AreApart ((xs ++ last ∷ []) ++ next ∷ [])
added_apart xs last next less apart rise =
    apart_push (xs ++ last ∷ []) next apart
    (all_push (λ x. IsBefore x next) xs last
    (all_more {P = λ x. IsBefore x last} {Q = λ x. IsBefore x next}
    (λ x before. record { begins = let b = before.begins in let own = starts in omega (arith, b, own); ends = let e = before.ends in let own = starts in omega (arith, e, own) }) xs (before_last xs last apart))
    (record { begins = starts; ends = less }))
  where
    starts : last.first ≤ next.first
    starts = all_last (λ range. range.first ≤ next.first) xs last rise

pub added_rise : (xs : List Range) (next : Range) → BeginBefore next.first xs → BeginBefore next.first (xs ++ next ∷ [])
added_rise xs next rise = all_push (λ range. range.first ≤ next.first) xs next rise (let same : next.first ≤ next.first = omega arith in same)

-- What is covered.

covers_push : (xs : List Range) (range : Range) (n : ℕ) → covers (xs ++ range ∷ []) n ≡ (covers xs n || is_within n range)
covers_push xs range n = list_any-append (is_within n) xs (range ∷ []) ∙ ap (λ b. covers xs n || b) (or_false (is_within n range))
  where
    or_false : (b : Bool) → (b || false) ≡ b
    or_false true = refl
    or_false false = refl

pub added_covers : (xs : List Range) (next : Range) (n : ℕ) → covers (xs ++ next ∷ []) n ≡ (covers xs n || is_within n next)
added_covers = covers_push

or_assoc : (a b c : Bool) → ((a || b) || c) ≡ (a || (b || c))
or_assoc true b c = refl
or_assoc false b c = refl

within_both : (a b c d n : ℕ) → a ≤ c → c ≤ b → (nat_le a n && nat_le n (max b d)) ≡ ((nat_le a n && nat_le n b) || (nat_le c n && nat_le n d))
within_both a b c d n begins meets = grind (arith, nat_tests, begins, meets)

pub joined_covers : (xs : List Range) (last range next : Range) (n : ℕ) → next.first ≡ last.first → next.last ≡ max last.last range.last → last.first ≤ range.first → range.first ≤ last.last →
    covers (xs ++ next ∷ []) n ≡ (covers (xs ++ last ∷ []) n || is_within n range)
joined_covers xs last range next n first end begins meets =
    covers_push xs next n
    ∙ ap (λ b. covers xs n || b) (rw (first, end) (within_both last.first last.last range.first range.last n begins meets))
    ∙ sym (or_assoc (covers xs n) (is_within n last) (is_within n range))
    ∙ ap (λ b. b || is_within n range) (sym (covers_push xs last n))

pub begins_before_last : (n : ℕ) (xs : List Range) (last : Range) → BeginBefore n (xs ++ last ∷ []) → last.first ≤ n
begins_before_last n xs last rise = all_last (λ range. range.first ≤ n) xs last rise

-- A search by halves.

rising : (xs : List Range) → AreApart xs → (k : ℕ) (d : Range) → suc k < length xs → (get_or xs k d).first ≤ (get_or xs (suc k) d).first
rising [] apart k d below = absurd (omega (arith, below))
rising (x ∷ []) apart k d below = absurd (omega (arith, below))
rising (x ∷ y ∷ xs) apart zero d below = apart.0.0.begins
rising (x ∷ y ∷ xs) apart (suc k) d below = rising (y ∷ xs) apart.1 k d (omega (arith, below))

pub non_decreasing : (xs : List Range) → AreApart xs → IsNonDecreasingBy (λ range. range.first) xs
non_decreasing xs apart = IsNonDecreasingBy-from_all_adjacent (λ range. range.first) xs (λ k d below.
    let next : k + 1 ≡ suc k = omega arith in
    subst (λ m. (get_or xs k d).first ≤ (get_or xs m d).first) (sym next) (rising xs apart k d (omega (arith, below))))

-- no range has the number, where each begins after it
none_after : (n : ℕ) (xs : List Range) (d : Range) → ((k : ℕ) → k < length xs → n < (get_or xs k d).first) → covers xs n ≡ false
none_after n [] d after = refl
none_after n (x ∷ xs) d after =
    let begins : n < x.first = after 0 (omega arith) in
    let out : is_within n x ≡ false = grind (arith, nat_tests, begins) in
    rw out (none_after n xs d (λ k below. after (suc k) (omega (arith, below))))

-- the last of those that begin at the number or before it is the one that may have it
pub found : (n : ℕ) (xs : List Range) (i : ℕ) (d : Range) → AreApart xs → i < length xs → ((k : ℕ) → k ≤ i → (get_or xs k d).first ≤ n) → ((k : ℕ) → i < k → k < length xs → n < (get_or xs k d).first) →
    covers xs n ≡ nat_le n (get_or xs i d).last
found n [] i d apart below at after = absurd (omega (arith, below))
found n (x ∷ xs) zero d apart below at after =
    let begins : x.first ≤ n = at 0 (omega arith) in
    let starts : nat_le x.first n ≡ true = grind (arith, nat_tests, begins) in
    let rest : covers xs n ≡ false = none_after n xs d (λ k less. after (suc k) (omega arith) (omega (arith, less))) in
    rw (starts, rest) (or_false (nat_le n x.last))
  where
    or_false : (b : Bool) → (b || false) ≡ b
    or_false true = refl
    or_false false = refl
found n (x ∷ []) (suc i) d apart below at after = absurd (omega (arith, below))
found n (x ∷ y ∷ xs) (suc i) d apart below at after =
    let ends : x.last < y.first = apart.0.0.ends in
    let next : y.first ≤ n = at 1 (omega arith) in
    let out : is_within n x ≡ false = grind (arith, nat_tests, ends, next) in
    rw out (found n (y ∷ xs) i d apart.1 (omega (arith, below)) (λ k le. at (suc k) (omega (arith, le))) (λ k less inside. after (suc k) (omega (arith, less)) (omega (arith, inside))))

-- where so many ranges begin at the number or before it, the last of them decides
pub decided : (n : ℕ) (xs : List Range) (count : ℕ) (last : Range) → AreApart xs → count ≤ length xs → 0 < count → IsPartitionPoint (λ range. leb range.first n ≡ true) (λ range. leb range.first n ≡ false) xs count →
    last ≡ get_or xs (count - 1) last → leb n last.last ≡ covers xs n
decided n xs count last apart within some point is =
    ap (λ range. leb n range.last) is
    ∙ sym (found n xs (count - 1) last apart (omega (arith, within, some))
    (λ k le. leb-true _ n (point.0 k last (omega arith) (omega (arith, le, some))))
    (λ k less inside. above _ (point.1 k last (omega (arith, less)) inside)))
  where
    above : (m : ℕ) → leb m n ≡ false → n < m
    above m later = grind (arith, nat_tests, later)

pub undecided : (n : ℕ) (xs : List Range) (count : ℕ) (d : Range) → count ≡ 0 → IsPartitionPoint (λ range. leb range.first n ≡ true) (λ range. leb range.first n ≡ false) xs count → false ≡ covers xs n
undecided n xs count d none point = sym (none_after n xs d (λ k inside. above _ (point.1 k d (omega (arith, none)) inside)))
  where
    above : (m : ℕ) → leb m n ≡ false → n < m
    above m later = grind (arith, nat_tests, later)

-- One range more of a list.

pub covers_more : (n index : ℕ) (xs : List Range) (d : Range) → index < length xs → covers (take (index + 1) xs) n ≡ (covers (take index xs) n || is_within n (get_or xs index d))
covers_more n index xs d below = ap (λ ys. covers ys n) (take_more xs index d below) ∙ covers_push (take index xs) (get_or xs index d) n

pub rises_more : (index : ℕ) (xs ys : List Range) (d : Range) → IsNonDecreasingBy (λ range. range.first) xs → index + 1 < length xs → BeginBefore (get_or xs index d).first ys → BeginBefore (get_or xs (index + 1) d).first ys
rises_more index xs ys d sorted below before =
    let up : (get_or xs index d).first ≤ (get_or xs (index + 1) d).first = sorted index (index + 1) d (omega arith) below in
    all_more {P = λ range. range.first ≤ (get_or xs index d).first} {Q = λ range. range.first ≤ (get_or xs (index + 1) d).first} (λ x le. omega (arith, le, up)) ys before

pub covers_next : (n index : ℕ) (first : Range) (rest : List Range) (d : Range) → index < length rest → covers (first ∷ take (index + 1) rest) n ≡ (covers (first ∷ take index rest) n || is_within n (get_or rest index d))
covers_next n index first rest d below =
    ap (λ b. is_within n first || b) (covers_more n index rest d below) ∙ sym (or_assoc (is_within n first) (covers (take index rest) n) (is_within n (get_or rest index d)))

-- The ranges after the first.

pub first_and_rest : {A : Type 0} (xs : List A) (d : A) → 0 < length xs → get_or xs 0 d ∷ take (length xs - 1) (drop 1 xs) ≡ xs
first_and_rest [] d some = absurd (omega (arith, some))
first_and_rest (x ∷ xs) d some = ap (λ ys. x ∷ ys) (take_all (length (x ∷ xs) - 1) xs (omega arith))

pub rest_sorted : (first : Range) (rest : List Range) → IsNonDecreasingBy (λ range. range.first) (first ∷ rest) → IsNonDecreasingBy (λ range. range.first) rest
rest_sorted first rest sorted i j d less below = sorted (suc i) (suc j) d (omega (arith, less)) (omega (arith, below))

pub first_begins : (first : Range) (rest : List Range) (d : Range) → IsNonDecreasingBy (λ range. range.first) (first ∷ rest) → 0 < length rest → BeginBefore (get_or rest 0 d).first (first ∷ [])
first_begins first rest d sorted below = (sorted 0 1 d (omega arith) (omega (arith, below)), tt)

-- Ranges of 32 bits.

pub wide_sorted : (xs : List Short) → IsNonDecreasingBy (λ short. short.first) xs → IsNonDecreasingBy (λ range. range.first) (map wide xs)
wide_sorted xs sorted i j d less below =
    let e : Short = record { first = 0; last = 0 } in
    let inside : j < length xs = subst (λ n. j < n) (length-map xs wide) below in
    rw (get_or-map wide xs i e d (omega (arith, less, inside)), get_or-map wide xs j e d inside) (sorted i j e less inside)

pub any_wide : (n : ℕ) (xs : List Short) → covers (map wide xs) n ≡ list_any (λ short. is_within n (wide short)) xs
any_wide n [] = refl
any_wide n (x ∷ xs) = ap (λ b. is_within n (wide x) || b) (any_wide n xs)
