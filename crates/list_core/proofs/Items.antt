-- Items at their places in a list.
use Rattle.std.proofs.Common.{◌≡◌, ℕ, zero, suc, ◌<◌, ◌⊎◌, Bool, true, false, List, [], ◌∷◌, ◌++◌, length, Option, Some, None, cond, refl, sym, ap, subst, ◌∙◌, ◌+◌, arith, inl, inr}
use Rattle.std.specs.Prelude.{nat_lt, slice_get, slice_set, ◌≢◌}
use Rattle.std.specs.List.{position, position_or_len, AllByRecursion}
use Rattle.std.proofs.lemmas.Bool.Decides.{nat_tests}
use Rattle.std.proofs.lemmas.List.Quantifiers.{position-Some}
use Rattle.std.proofs.lemmas.Option.{get_or_from_slice_get, slice_get_within}

pub within : {X : Type 0} (xs : List X) (n : ℕ) → n < length xs → (x : X) × (slice_get xs n ≡ Some x)
within [] n less = absurd (omega (arith, less))
within (x ∷ xs) zero less = (x, refl)
within (x ∷ xs) (suc n) less = within xs n (omega (arith, less))

-- there is one item at a place
pub one_item : {X : Type 0} (o : Option X) (x y : X) → o ≡ Some x → o ≡ Some y → x ≡ y
one_item o x y left right = let same : Some x ≡ Some y = sym left ∙ right in cc

-- An item changed.

pub get-set : {X : Type 0} (xs : List X) (n : ℕ) (y : X) → n < length xs → slice_get (slice_set xs n y) n ≡ Some y
get-set [] n y less = absurd (omega (arith, less))
get-set (z ∷ xs) zero y less = refl
get-set (z ∷ xs) (suc n) y less = get-set xs n y (omega (arith, less))

pub get-other : {X : Type 0} (xs : List X) (n m : ℕ) (x : X) → m ≢ n → slice_get (slice_set xs n x) m ≡ slice_get xs m
get-other [] n m x other = refl
get-other (y ∷ xs) zero zero x other = absurd (other refl)
get-other (y ∷ xs) zero (suc m) x other = refl
get-other (y ∷ xs) (suc n) zero x other = refl
get-other (y ∷ xs) (suc n) (suc m) x other = get-other xs n m x (λ same. other (ap suc same))

pub length-set : {X : Type 0} (xs : List X) (n : ℕ) (x : X) → length (slice_set xs n x) ≡ length xs
length-set [] n x = refl
length-set (y ∷ xs) zero x = refl
length-set (y ∷ xs) (suc n) x = cc (length-set xs n x)

-- what is there once an item was changed
pub set-cases : {X : Type 0} (xs : List X) (n m : ℕ) (y x : X) → slice_get (slice_set xs n y) m ≡ Some x → ((m ≡ n) × (y ≡ x)) ⊎ ((m ≢ n) × (slice_get xs m ≡ Some x))
set-cases [] n m y x is = absurd (let wrong : None ≡ Some x = is in cc)
set-cases (z ∷ xs) zero zero y x is = inl (refl, one_item (Some y) y x refl is)
set-cases (z ∷ xs) zero (suc m) y x is = inr ((λ same. omega (arith, same)), is)
set-cases (z ∷ xs) (suc n) zero y x is = inr ((λ same. omega (arith, same)), is)
set-cases {X} (z ∷ xs) (suc n) (suc m) y x is = by (set-cases xs n m y x is)
  where
    by : ((m ≡ n) × (y ≡ x)) ⊎ ((m ≢ n) × (slice_get xs m ≡ Some x)) → ((suc m ≡ suc n) × (y ≡ x)) ⊎ ((suc m ≢ suc n) × (slice_get (z ∷ xs) (suc m) ≡ Some x))
    by (inl here) = inl (ap suc here.0, here.1)
    by (inr there) = inr ((λ same. there.0 (omega (arith, same))), there.1)

-- what is there once an item was added
pub push-cases : {X : Type 0} (xs : List X) (y : X) (n : ℕ) (x : X) → slice_get (xs ++ y ∷ []) n ≡ Some x → (slice_get xs n ≡ Some x) ⊎ ((n ≡ length xs) × (y ≡ x))
push-cases [] y zero x is = inr (refl, one_item (Some y) y x refl is)
push-cases [] y (suc n) x is = absurd (let wrong : None ≡ Some x = is in cc)
push-cases (z ∷ xs) y zero x is = inl is
push-cases {X} (z ∷ xs) y (suc n) x is = by (push-cases xs y n x is)
  where
    by : (slice_get xs n ≡ Some x) ⊎ ((n ≡ length xs) × (y ≡ x)) → (slice_get (z ∷ xs) (suc n) ≡ Some x) ⊎ ((suc n ≡ length (z ∷ xs)) × (y ≡ x))
    by (inl before) = inl before
    by (inr last) = inr (let at = last.0 in omega (arith, at), last.1)

pub get-pushed : {X : Type 0} (xs : List X) (y : X) (n : ℕ) (x : X) → slice_get xs n ≡ Some x → slice_get (xs ++ y ∷ []) n ≡ Some x
get-pushed [] y n x there = absurd (let wrong : None ≡ Some x = there in cc)
get-pushed (z ∷ xs) y zero x there = there
get-pushed (z ∷ xs) y (suc n) x there = get-pushed xs y n x there

pub get-last : {X : Type 0} (xs : List X) (y : X) → slice_get (xs ++ y ∷ []) (length xs) ≡ Some y
get-last [] y = refl
get-last (x ∷ xs) y = get-last xs y

pub all-at : {X : Type 0} (P : X → Type 0) (xs : List X) (n : ℕ) (x : X) → AllByRecursion P xs → slice_get xs n ≡ Some x → P x
all-at P [] n x all there = absurd (let wrong : None ≡ Some x = there in cc)
all-at P (y ∷ ys) zero x all there = let same : y ≡ x = one_item (Some y) y x refl there in subst P same all.0
all-at P (y ∷ ys) (suc n) x all there = all-at P ys n x all.1 there

-- An item that a search finds.

nowhere : (b : Bool) (n : ℕ) → cond b (Some n) None ≡ None → b ≡ false
nowhere true n e = absurd (cc)
nowhere false n e = refl

-- no item passes where none is found
pub absent : {X : Type 0} (p : X → Bool) (xs : List X) → position p xs ≡ None → AllByRecursion (λ x. p x ≡ false) xs
absent p xs none = past p xs (nowhere (nat_lt (position_or_len p xs) (length xs)) (position_or_len p xs) none)
  where
    past : {X : Type 0} (p : X → Bool) (xs : List X) → nat_lt (position_or_len p xs) (length xs) ≡ false → AllByRecursion (λ x. p x ≡ false) xs
    past p [] e = tt
    past {X} p (x ∷ xs) e = by (p x) refl e (past p xs)
      where
        by : (b : Bool) → p x ≡ b → nat_lt (position_or_len p (x ∷ xs)) (length (x ∷ xs)) ≡ false → (nat_lt (position_or_len p xs) (length xs) ≡ false → AllByRecursion (λ x. p x ≡ false) xs)
            → AllByRecursion (λ x. p x ≡ false) (x ∷ xs)
        by true is e more = absurd (let f : nat_lt 0 (length (x ∷ xs)) ≡ false = rw is at e in let t : nat_lt 0 (length (x ∷ xs)) ≡ true = grind (arith, nat_tests) in let wrong : true ≡ false = sym t ∙ f in cc)
        by false is e more = (is, more (let f : nat_lt (1 + position_or_len p xs) (length (x ∷ xs)) ≡ false = rw is at e in grind (arith, nat_tests)))

-- the item that is found passes
pub found : {X : Type 0} (p : X → Bool) (xs : List X) (n : ℕ) → position p xs ≡ Some n → (x : X) × (slice_get xs n ≡ Some x) × (p x ≡ true)
found p [] n is = absurd (let wrong : None ≡ Some n = is in cc)
found {X} p (y ∷ ys) n is =
    let at = position-Some p (y ∷ ys) n y is in
    let item = within (y ∷ ys) n at.0 in
    (item.0, item.1, ap p (sym (get_or_from_slice_get (y ∷ ys) n item.0 y item.1)) ∙ at.1)

-- The first of a list that passes.

first_or_len : {X : Type 0} (p : X → Bool) (xs : List X) (n : ℕ) (x : X) → slice_get xs n ≡ Some x → p x ≡ true → ((m : ℕ) (y : X) → m < n → slice_get xs m ≡ Some y → p y ≡ false)
    → position_or_len p xs ≡ n
first_or_len p [] n x there is before = absurd (cc)
first_or_len {X} p (y ∷ xs) zero x there is before =
    let first : p y ≡ true = ap p (one_item (slice_get (y ∷ xs) 0) y x refl there) ∙ is in
    rw first refl
first_or_len {X} p (y ∷ xs) (suc n) x there is before =
    let first : p y ≡ false = before 0 y (omega arith) refl in
    let later : position_or_len p xs ≡ n = first_or_len p xs n x there is (λ m z lt at. before (suc m) z (omega (arith, lt)) at) in
    rw first (omega (arith, later))

pub position_first : {X : Type 0} (p : X → Bool) (xs : List X) (n : ℕ) (x : X) → slice_get xs n ≡ Some x → p x ≡ true → ((m : ℕ) (y : X) → m < n → slice_get xs m ≡ Some y → p y ≡ false)
    → position p xs ≡ Some n
position_first p xs n x there is before =
    let low : n < length xs = slice_get_within xs n x there in
    let lt : nat_lt n (length xs) ≡ true = grind (arith, nat_tests, low) in
    rw (first_or_len p xs n x there is before, lt) refl

none_or_len : {X : Type 0} (p : X → Bool) (xs : List X) → ((m : ℕ) (y : X) → slice_get xs m ≡ Some y → p y ≡ false) → position_or_len p xs ≡ length xs
none_or_len p [] none = refl
none_or_len p (y ∷ xs) none =
    let first : p y ≡ false = none 0 y refl in
    let later : position_or_len p xs ≡ length xs = none_or_len p xs (λ m z at. none (suc m) z at) in
    rw first (omega (arith, later))

pub position_none : {X : Type 0} (p : X → Bool) (xs : List X) → ((m : ℕ) (y : X) → slice_get xs m ≡ Some y → p y ≡ false) → position p xs ≡ None
position_none p xs none =
    let past : nat_lt (length xs) (length xs) ≡ false = grind (arith, nat_tests) in
    rw (none_or_len p xs none, past) refl
