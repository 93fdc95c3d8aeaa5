-- The least of some items, and items in order.
use Rattle.std.proofs.Common.{◌≡◌, ℕ, zero, suc, ◌<◌, Bool, true, false, List, [], ◌∷◌, length, drop, get_or, Option, Some, None, refl, sym, ap, ◌∙◌, arith, filter, subst, if◌then◌else◌, ◌⊎◌, inl, inr}
use Rattle.std.specs.Prelude.{find, slice_get, ◌&&◌}
use Rattle.std.specs.List.{AllByRecursion, Contains}
use Rattle.list_core.proofs.PlaceLemmas.{find-passes}
use Rattle.balance_core.specs.Orders.{lesser, least, IsInOrder}

-- an item that comes before another does not come after it
abbrev pub IsOneWay : {X : Type 0} → (X → X → Bool) → Type 0
IsOneWay {X} before = (a b : X) → before a b ≡ true → before b a ≡ false

pub not_itself : {X : Type 0} (before : X → X → Bool) → IsOneWay before → (x : X) → before x x ≡ false
not_itself {X} before back x = by (before x x) refl
  where
    by : (b : Bool) → before x x ≡ b → before x x ≡ false
    by false is = is
    by true is = back x x is

true_not_false : true ≡ false → ⊥
true_not_false e = cc

pub all_map : {X : Type 0} {P Q : X → Type 0} → ((x : X) → P x → Q x) → (xs : List X) → AllByRecursion P xs → AllByRecursion Q xs
all_map f [] all = tt
all_map f (x ∷ xs) all = (f x all.0, all_map f xs all.1)

all_filter : {X : Type 0} (P : X → Type 0) (p : X → Bool) (xs : List X) → AllByRecursion P xs → AllByRecursion P (filter p xs)
all_filter P p [] all = tt
all_filter {X} P p (x ∷ xs) all = by (p x) refl (all_filter P p xs all.1)
  where
    by : (b : Bool) → p x ≡ b → AllByRecursion P (filter p xs) → AllByRecursion P (filter p (x ∷ xs))
    by true is more = rw is (all.0, more)
    by false is more = rw is more

-- what holds of all holds of the least
least_all : {X : Type 0} (before : X → X → Bool) (P : X → Type 0) (xs : List X) → AllByRecursion P xs → (z : X) → least before xs ≡ Some z → P z
least_all before P [] all z e = absurd (cc)
least_all {X} before P (x ∷ xs) all z e = by (least before xs) refl (least_all before P xs all.1) e
  where
    either : (y : X) (b : Bool) → P y → Some (if b then y else x) ≡ Some z → P z
    either y true py e = let same : y ≡ z = cc in subst P same py
    either y false py e = let same : x ≡ z = cc in subst P same all.0

    by : (o : Option X) → least before xs ≡ o → ((z : X) → least before xs ≡ Some z → P z) → lesser before x (least before xs) ≡ Some z → P z
    by None is more e = let it : Some x ≡ Some z = rw is at e in let same : x ≡ z = cc in subst P same all.0
    by (Some y) is more e = either y (before y x) (more y is) (rw is at e)

-- an item that no other comes before is the least
least_first : {X : Type 0} (before : X → X → Bool) (x : X) (xs : List X) → AllByRecursion (λ y. before y x ≡ false) xs → lesser before x (least before xs) ≡ Some x
least_first {X} before x xs none = by (least before xs) refl
  where
    by : (o : Option X) → least before xs ≡ o → lesser before x (least before xs) ≡ Some x
    by None is = rw is refl
    by (Some y) is =
        let not_y : before y x ≡ false = least_all before (λ y. before y x ≡ false) xs none y is in
        rw (is, not_y) refl

-- of items in order, the least that passes is the first
pub least_in_order : {X : Type 0} (before : X → X → Bool) → IsOneWay before → (p : X → Bool) (xs : List X) → IsInOrder before xs → least before (filter p xs) ≡ find p xs
least_in_order before back p [] order = refl
least_in_order {X} before back p (x ∷ xs) order = by (p x) refl (least_in_order before back p xs order.1)
  where
    by : (b : Bool) → p x ≡ b → least before (filter p xs) ≡ find p xs → least before (filter p (x ∷ xs)) ≡ find p (x ∷ xs)
    by true is more = rw is (least_first before x (filter p xs) (all_filter (λ y. before y x ≡ false) p xs (all_map (λ y first. back x y first) xs order.0)))
    by false is more = rw is more

-- Items in any order.

none_passes : {X : Type 0} (p : X → Bool) (xs : List X) → AllByRecursion (λ y. p y ≡ false) xs → filter p xs ≡ []
none_passes p [] none = refl
none_passes p (x ∷ xs) none = rw none.0 (none_passes p xs none.1)

none_found : {X : Type 0} (p : X → Bool) (xs : List X) → find p xs ≡ None → AllByRecursion (λ y. p y ≡ false) xs
none_found p [] e = tt
none_found {X} p (x ∷ xs) e = by (p x) refl e (none_found p xs)
  where
    by : (b : Bool) → p x ≡ b → find p (x ∷ xs) ≡ None → (find p xs ≡ None → AllByRecursion (λ y. p y ≡ false) xs) → AllByRecursion (λ y. p y ≡ false) (x ∷ xs)
    by true is e more = absurd (let wrong : Some x ≡ None = rw is at e in cc)
    by false is e more = (is, more (rw is at e))

-- what passes is the item, or comes after it
abbrev IsLater : {X : Type 0} → (X → X → Bool) → (X → Bool) → X → X → Type 0
IsLater before p x y = p y ≡ true → (y ≡ x) ⊎ (before x y ≡ true)

first_found : {X : Type 0} (before : X → X → Bool) (p : X → Bool) (xs : List X) (x : X) → IsInOrder before xs → find p xs ≡ Some x → AllByRecursion (IsLater before p x) xs
first_found before p [] x order e = absurd (cc)
first_found {X} before p (y ∷ xs) x order e = by (p y) refl e (first_found before p xs x order.1)
  where
    by : (b : Bool) → p y ≡ b → find p (y ∷ xs) ≡ Some x → (find p xs ≡ Some x → AllByRecursion (IsLater before p x) xs) → AllByRecursion (IsLater before p x) (y ∷ xs)
    by true is e more =
        let it : Some y ≡ Some x = rw is at e in
        let same : y ≡ x = cc in
        (λ passes. inl same, all_map (λ z first passes. inr (ap (λ a. before a z) (sym same) ∙ first)) xs order.0)
    by false is e more = (λ passes. absurd (true_not_false (sym passes ∙ is)), more (rw is at e))

found_there : {X : Type 0} (p : X → Bool) (xs : List X) (x : X) → find p xs ≡ Some x → Contains xs x
found_there p [] x e = absurd (cc)
found_there {X} p (y ∷ xs) x e = by (p y) refl e (found_there p xs x)
  where
    by : (b : Bool) → p y ≡ b → find p (y ∷ xs) ≡ Some x → (find p xs ≡ Some x → Contains xs x) → Contains (y ∷ xs) x
    by true is e more = let it : Some y ≡ Some x = rw is at e in let same : y ≡ x = cc in (0, omega arith, same)
    by false is e more = let there : Contains xs x = more (rw is at e) in (suc there.0, omega (arith, there.1), there.2)

-- an item that is in a list, and that each other that passes comes after, is the least that passes
least_of : {X : Type 0} (before : X → X → Bool) → IsOneWay before → (p : X → Bool) (x : X) → p x ≡ true → (xs : List X) → AllByRecursion (IsLater before p x) xs → Contains xs x
    → least before (filter p xs) ≡ Some x
least_of before back p x passes [] all there = absurd (omega (arith, there.1))
least_of {X} before back p x passes (y ∷ xs) all there = at there.0 there.1 there.2 (least_of before back p x passes xs all.1)
  where
    -- nothing that passes comes before it
    no_earlier : (ys : List X) → AllByRecursion (IsLater before p x) ys → AllByRecursion (λ z. before z x ≡ false) (filter p ys)
    no_earlier [] all = tt
    no_earlier (z ∷ ys) all = by (p z) refl (no_earlier ys all.1)
      where
        which : (z ≡ x) ⊎ (before x z ≡ true) → before z x ≡ false
        which (inl same) = ap (λ a. before a x) same ∙ not_itself before back x
        which (inr later) = back x z later

        by : (b : Bool) → p z ≡ b → AllByRecursion (λ z. before z x ≡ false) (filter p ys) → AllByRecursion (λ z. before z x ≡ false) (filter p (z ∷ ys))
        by true is more = rw is (which (all.0 is), more)
        by false is more = rw is more

    here : y ≡ x → least before (filter p (y ∷ xs)) ≡ Some x
    here same =
        let own : p y ≡ true = ap p same ∙ passes in
        let it : lesser before x (least before (filter p xs)) ≡ Some x = least_first before x (filter p xs) (no_earlier xs all.1) in
        rw own (ap (λ a. lesser before a (least before (filter p xs))) same ∙ it)

    past : (b : Bool) → p y ≡ b → least before (filter p xs) ≡ Some x → least before (filter p (y ∷ xs)) ≡ Some x
    past false is more = rw is more
    past true is more = which (all.0 is)
      where
        which : (y ≡ x) ⊎ (before x y ≡ true) → least before (filter p (y ∷ xs)) ≡ Some x
        which (inl same) = here same
        which (inr later) = rw (is, more, later) refl

    at : (k : ℕ) → k < length (y ∷ xs) → get_or (y ∷ xs) k x ≡ x → (Contains xs x → least before (filter p xs) ≡ Some x) → least before (filter p (y ∷ xs)) ≡ Some x
    at zero lt is more = here is
    at (suc k) lt is more = past (p y) refl (more (k, omega (arith, lt), is))

-- items and those of them in order have the same least that passes
pub least_sorted : {X : Type 0} (before : X → X → Bool) → IsOneWay before → (p : X → Bool) (all sorted : List X) → IsInOrder before sorted
    → ((P : X → Type 0) → AllByRecursion P sorted → AllByRecursion P all) → ((x : X) → Contains sorted x → Contains all x)
    → least before (filter p all) ≡ find p sorted
least_sorted {X} before back p all sorted order each there = by (find p sorted) refl
  where
    by : (o : Option X) → find p sorted ≡ o → least before (filter p all) ≡ find p sorted
    by None is = ap (least before) (none_passes p all (each (λ y. p y ≡ false) (none_found p sorted is))) ∙ sym is
    by (Some x) is =
        least_of before back p x (find-passes p sorted x is) all (each (IsLater before p x) (first_found before p sorted x order is)) (there x (found_there p sorted x is))
        ∙ sym is

-- Those after one of them.

all_pass : {X : Type 0} (p : X → Bool) (xs : List X) → AllByRecursion (λ y. p y ≡ true) xs → filter p xs ≡ xs
all_pass p [] all = refl
all_pass p (x ∷ xs) all = rw all.0 (ap (λ ys. x ∷ ys) (all_pass p xs all.1))

all_at : {X : Type 0} (P : X → Type 0) (xs : List X) (n : ℕ) (x : X) → AllByRecursion P xs → slice_get xs n ≡ Some x → P x
all_at P [] n x all e = absurd (cc)
all_at P (y ∷ xs) zero x all e = let same : y ≡ x = cc in subst P same all.0
all_at P (y ∷ xs) (suc n) x all e = all_at P xs n x all.1 e

pub after_is_drop : {X : Type 0} (before : X → X → Bool) → IsOneWay before → (xs : List X) (n : ℕ) (x : X) → IsInOrder before xs → slice_get xs n ≡ Some x → filter (before x) xs ≡ drop (suc n) xs
after_is_drop before back [] n x order e = absurd (cc)
after_is_drop before back (y ∷ xs) zero x order e =
    let same : y ≡ x = cc in
    let not_own : before x y ≡ false = ap (before x) same ∙ not_itself before back x in
    let rest : filter (before x) xs ≡ xs = all_pass (before x) xs (all_map (λ z first. ap (λ a. before a z) (sym same) ∙ first) xs order.0) in
    rw not_own rest
after_is_drop before back (y ∷ xs) (suc n) x order e =
    let earlier : before y x ≡ true = all_at (λ z. before y z ≡ true) xs n x order.0 e in
    let not_y : before x y ≡ false = back y x earlier in
    rw not_y (after_is_drop before back xs n x order.1 e)

pub filter_both : {X : Type 0} (p q : X → Bool) (xs : List X) → filter q (filter p xs) ≡ filter (λ x. q x && p x) xs
filter_both p q [] = refl
filter_both {X} p q (x ∷ xs) = by (p x) refl (q x) refl (filter_both p q xs)
  where
    by : (b : Bool) → p x ≡ b → (c : Bool) → q x ≡ c → filter q (filter p xs) ≡ filter (λ x. q x && p x) xs → filter q (filter p (x ∷ xs)) ≡ filter (λ x. q x && p x) (x ∷ xs)
    by true is true that more = rw (is, that) (ap (λ ys. x ∷ ys) more)
    by true is false that more = rw (is, that) more
    by false is true that more = rw (is, that) more
    by false is false that more = rw (is, that) more

pub find_both : {X : Type 0} (p q : X → Bool) (xs : List X) → find (λ x. q x && p x) xs ≡ find p (filter q xs)
find_both p q [] = refl
find_both {X} p q (x ∷ xs) = by (p x) refl (q x) refl (find_both p q xs)
  where
    by : (b : Bool) → p x ≡ b → (c : Bool) → q x ≡ c → find (λ x. q x && p x) xs ≡ find p (filter q xs) → find (λ x. q x && p x) (x ∷ xs) ≡ find p (filter q (x ∷ xs))
    by true is true that more = rw (is, that) (rw is refl)
    by true is false that more = rw (is, that) more
    by false is true that more = rw (is, that) (rw is more)
    by false is false that more = rw (is, that) more
