-- What holds of each item of a list, and lists changed by number.
use Rattle.std.specs.Prelude.{ℕ, zero, suc, Bool, true, false, List, [], length, map, filter, find, slice_get, nat_lt, Some, None, refl, ◌+◌, ◌≤◌, ◌<◌, ◌≡◌, ◌⊎◌, ◌&&◌, ◌||◌, ◌∷◌, ◌++◌}
use Rattle.std.specs.List.{list_any, position, position_or_len, AllByRecursion}
use Rattle.std.proofs.Common.{cond, sym, ap, ◌∙◌, subst, arith, inl, inr}
use Rattle.std.proofs.lemmas.Bool.{false≢true}
use Rattle.std.proofs.lemmas.Bool.Decides.{nat_tests}
use Rattle.std.proofs.lemmas.List.Folds.{find_at}
use Rattle.std.proofs.lemmas.Option.{slice_get_past}
use Rattle.conn_model.specs.Words.{map_from, Rise}
pub use Rattle.list_core.proofs.AllLemmas.{all-append, all-filter, all-more}

pub or_true : (a b : Bool) → (a || b) ≡ true → (a ≡ true) ⊎ (b ≡ true)
or_true true b is = inl refl
or_true false b is = inr is

pub and_true : (a b : Bool) → (a && b) ≡ true → (a ≡ true) × (b ≡ true)
and_true true b is = (refl, is)
and_true false b is = absurd (false≢true is)

pub or_left : (a b : Bool) → a ≡ true → (a || b) ≡ true
or_left a b is = rw is refl

pub or_right : (a b : Bool) → b ≡ true → (a || b) ≡ true
or_right true b is = refl
or_right false b is = is

pub all-each : {X : Type 0} (P : X → Type 0) (xs : List X) → ((x : X) → P x) → AllByRecursion P xs
all-each P [] each = tt
all-each P (x ∷ xs) each = (each x, all-each P xs each)

pub all-map : {X Y : Type 0} (P : Y → Type 0) (f : X → Y) (xs : List X) → AllByRecursion (λ x. P (f x)) xs → AllByRecursion P (map f xs)
all-map P f [] all = tt
all-map P f (x ∷ xs) all = (all.0, all-map P f xs all.1)

pub all-found : {X : Type 0} (P : X → Type 0) (test : X → Bool) (xs : List X) (x : X) → AllByRecursion P xs → find test xs ≡ Some x → P x × (test x ≡ true)
all-found P test [] x all found = cc
all-found {X} P test (y ∷ ys) x all found = by (test y) refl (λ later. all-found P test ys x all.1 later)
  where
    by : (b : Bool) → test y ≡ b → (find test ys ≡ Some x → P x × (test x ≡ true)) → P x × (test x ≡ true)
    by true e rest = let same : y ≡ x = let it : Some y ≡ Some x = rw e at found in cc in (subst P same all.0, ap test (sym same) ∙ e)
    by false e rest = rest (rw e at found)

pub all-at : {X : Type 0} (P : X → Type 0) (xs : List X) (n : ℕ) (x : X) → AllByRecursion P xs → slice_get xs n ≡ Some x → P x
all-at P [] n x all there = cc
all-at P (y ∷ ys) zero x all there = let same : y ≡ x = cc in subst P same all.0
all-at P (y ∷ ys) (suc n) x all there = all-at P ys n x all.1 there

pub all-from : {X : Type 0} (P : X → Type 0) (f : ℕ → X → X) (k : ℕ) (xs : List X) → ((i : ℕ) (x : X) → slice_get xs i ≡ Some x → P (f (k + i) x)) →
    AllByRecursion P (map_from f k xs)
all-from P f k [] each = tt
all-from {X} P f k (x ∷ xs) each =
    let place : k + 0 ≡ k = omega arith in (
      subst (λ n. P (f n x)) place (each 0 x refl),
      all-from P f (k + 1) xs (λ i y there. let shift : k + suc i ≡ (k + 1) + i = omega arith in subst (λ n. P (f n y)) shift (each (suc i) y there)),
    )

pub length-from : {X : Type 0} (f : ℕ → X → X) (k : ℕ) (xs : List X) → length (map_from f k xs) ≡ length xs
length-from f k [] = refl
length-from f k (x ∷ xs) = cc (length-from f (k + 1) xs)

pub map_from-same : {X : Type 0} (P : X → Type 0) (f : ℕ → X → X) → ((n : ℕ) (x : X) → P x → f n x ≡ x) → (k : ℕ) (xs : List X) → AllByRecursion P xs → map_from f k xs ≡ xs
map_from-same P f same k [] all = refl
map_from-same P f same k (x ∷ xs) all = cc (same k x all.0, map_from-same P f same (k + 1) xs all.1)

pub get-from : {X : Type 0} (f : ℕ → X → X) (k : ℕ) (xs : List X) (i : ℕ) (x : X) → slice_get xs i ≡ Some x → slice_get (map_from f k xs) i ≡ Some (f (k + i) x)
get-from f k [] i x there = cc
get-from f k (y ∷ xs) zero x there = let place : k + 0 ≡ k = omega arith in rw place (cc)
get-from f k (y ∷ xs) (suc i) x there = let shift : k + suc i ≡ (k + 1) + i = omega arith in rw shift (get-from f (k + 1) xs i x there)

-- at its own number
pub get-from_zero : {X : Type 0} (f : ℕ → X → X) (xs : List X) (i : ℕ) (x : X) → slice_get xs i ≡ Some x → slice_get (map_from f 0 xs) i ≡ Some (f i x)
get-from_zero {X} f xs i x there =
    let place : 0 + i ≡ i = omega arith in
    subst (λ n. slice_get (map_from f 0 xs) i ≡ Some (f n x)) place (get-from f 0 xs i x there)

pub all-filter_if : {X : Type 0} (P : X → Type 0) (test : X → Bool) (xs : List X) → AllByRecursion (λ x. test x ≡ true → P x) xs → AllByRecursion P (filter test xs)
all-filter_if P test [] all = tt
all-filter_if {X} P test (x ∷ xs) all = by (test x) refl (all-filter_if P test xs all.1)
  where
    by : (b : Bool) → test x ≡ b → AllByRecursion P (filter test xs) → AllByRecursion P (filter test (x ∷ xs))
    by true e rest = rw e (all.0 e, rest)
    by false e rest = rw e rest

pub all-from_zero : {X : Type 0} (P : X → Type 0) (f : ℕ → X → X) (xs : List X) → ((i : ℕ) (x : X) → slice_get xs i ≡ Some x → P (f i x)) → AllByRecursion P (map_from f 0 xs)
all-from_zero P f xs each = all-from P f 0 xs (λ i x there. let place : i ≡ 0 + i = omega arith in subst (λ n. P (f n x)) place (each i x there))

pub all-both : {X : Type 0} (P Q : X → Type 0) (xs : List X) → AllByRecursion P xs → AllByRecursion Q xs → AllByRecursion (λ x. P x × Q x) xs
all-both P Q [] one two = tt
all-both P Q (x ∷ xs) one two = ((one.0, two.0), all-both P Q xs one.1 two.1)

-- where each item that passes has it after a change
pub all-unfiltered : {X Y : Type 0} (P : Y → Type 0) (f : X → Y) (test : X → Bool) (xs : List X) → AllByRecursion P (map f (filter test xs)) → AllByRecursion (λ x. test x ≡ true → P (f x)) xs
all-unfiltered P f test [] all = tt
all-unfiltered {X} {Y} P f test (x ∷ xs) all = by (test x) refl (all-unfiltered P f test xs)
  where
    by : (b : Bool) → test x ≡ b → (AllByRecursion P (map f (filter test xs)) → AllByRecursion (λ y. test y ≡ true → P (f y)) xs) → AllByRecursion (λ y. test y ≡ true → P (f y)) (x ∷ xs)
    by true e rest = let both : AllByRecursion P (map f (x ∷ filter test xs)) = rw e at all in ((λ is. both.0), rest both.1)
    by false e rest = let later : AllByRecursion P (map f (filter test xs)) = rw e at all in ((λ is. absurd (false≢true (sym e ∙ is))), rest later)

-- a filter that all pass
pub filter-all : {X : Type 0} (test : X → Bool) (xs : List X) → AllByRecursion (λ x. test x ≡ true) xs → filter test xs ≡ xs
filter-all test [] all = refl
filter-all test (x ∷ xs) all = rw all.0 (ap (λ ys. x ∷ ys) (filter-all test xs all.1))

-- what passes the test is in the list
pub all-pass : {X : Type 0} (test : X → Bool) (xs : List X) → AllByRecursion (λ x. test x ≡ true) (filter test xs)
all-pass test [] = tt
all-pass {X} test (x ∷ xs) = by (test x) refl (all-pass test xs)
  where
    by : (b : Bool) → test x ≡ b → AllByRecursion (λ y. test y ≡ true) (filter test xs) → AllByRecursion (λ y. test y ≡ true) (filter test (x ∷ xs))
    by true e rest = rw e (e, rest)
    by false e rest = rw e rest

pub any-at : {X : Type 0} (test : X → Bool) (xs : List X) (n : ℕ) (x : X) → slice_get xs n ≡ Some x → test x ≡ true → list_any test xs ≡ true
any-at test [] n x there is = cc
any-at test (y ∷ ys) zero x there is = let same : y ≡ x = cc in or_left (test y) (list_any test ys) (ap test same ∙ is)
any-at test (y ∷ ys) (suc n) x there is = or_right (test y) (list_any test ys) (any-at test ys n x there is)

-- Lists that rise.

pub rise-filter : {X : Type 0} (number : X → ℕ) (test : X → Bool) (xs : List X) → Rise number xs → Rise number (filter test xs)
rise-filter number test [] rise = tt
rise-filter {X} number test (x ∷ xs) rise = by (test x) refl (rise-filter number test xs rise.1)
  where
    by : (b : Bool) → test x ≡ b → Rise number (filter test xs) → Rise number (filter test (x ∷ xs))
    by true e rest = rw e (all-filter (λ y. number x < number y) test xs rise.0, rest)
    by false e rest = rw e rest

pub rise-map : {X : Type 0} (number : X → ℕ) (f : X → X) → ((x : X) → number (f x) ≡ number x) → (xs : List X) → Rise number xs → Rise number (map f xs)
rise-map number f same [] rise = tt
rise-map number f same (x ∷ xs) rise = (
  all-map (λ y. number (f x) < number y) f xs (all-more (λ y. number x < number y) (λ y. number (f x) < number (f y)) xs (λ y below. rw (same x, same y) below) rise.0),
  rise-map number f same xs rise.1,
)

-- where some number parts the two lists
pub rise-append : {X : Type 0} (number : X → ℕ) (m : ℕ) (xs ys : List X) → Rise number xs → Rise number ys → AllByRecursion (λ x. number x ≤ m) xs → AllByRecursion (λ y. m < number y) ys →
    Rise number (xs ++ ys)
rise-append number m [] ys one two low high = two
rise-append number m (x ∷ xs) ys one two low high = (
  all-append (λ y. number x < number y) xs ys one.0 (all-more (λ y. m < number y) (λ y. number x < number y) ys (λ y above. let below : number x ≤ m = low.0 in omega (arith, above, below)) high),
  rise-append number m xs ys one.1 two low.1 high,
)

-- An item found by its place.

pub place_is : {X : Type 0} (p : X → Bool) (xs : List X) (n : ℕ) → position p xs ≡ Some n → n ≡ position_or_len p xs
place_is p xs n is = sym (by (nat_lt (position_or_len p xs) (length xs)) refl is)
  where
    by : (b : Bool) → nat_lt (position_or_len p xs) (length xs) ≡ b → cond b (Some (position_or_len p xs)) None ≡ Some n → position_or_len p xs ≡ n
    by true less is = cc
    by false less is = absurd (cc)

pub found_there : {X : Type 0} (p : X → Bool) (xs : List X) (n : ℕ) → position p xs ≡ Some n → find p xs ≡ slice_get xs n
found_there p xs n is = find_at p xs ∙ ap (λ i. slice_get xs i) (sym (place_is p xs n is))

pub nowhere : {X : Type 0} (p : X → Bool) (xs : List X) → position p xs ≡ None → find p xs ≡ None
nowhere p xs is = find_at p xs ∙ slice_get_past xs (position_or_len p xs) (by (nat_lt (position_or_len p xs) (length xs)) refl is)
  where
    by : (b : Bool) → nat_lt (position_or_len p xs) (length xs) ≡ b → cond b (Some (position_or_len p xs)) None ≡ None → length xs ≤ position_or_len p xs
    by true less is = absurd (cc)
    by false less is = grind (arith, nat_tests)

pub position_within : {X : Type 0} (p : X → Bool) (xs : List X) (n : ℕ) → position p xs ≡ Some n → n < length xs
position_within p xs n is = by (nat_lt (position_or_len p xs) (length xs)) refl is
  where
    by : (b : Bool) → nat_lt (position_or_len p xs) (length xs) ≡ b → cond b (Some (position_or_len p xs)) None ≡ Some n → n < length xs
    by true less is = let same : position_or_len p xs ≡ n = cc in grind (arith, nat_tests)
    by false less is = absurd (cc)
