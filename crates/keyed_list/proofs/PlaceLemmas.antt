-- Places by rising keys, and the entries that lie in them.
use Rattle.std.proofs.Common.{append_assoc, ◌≡◌, ℕ, zero, suc, ◌+◌, ◌<◌, true, false, List, [], ◌∷◌, ◌++◌, length, get_or, Option, Some, None, Result, Ok, Err, refl, sym, ap, ◌∙◌, subst, arith, inl, inr}
use Rattle.std.specs.Prelude.{◌==◌, slice_get, slice_set, IfSome, IfNone}
use Rattle.std.specs.Option.{option_map}
use Rattle.std.specs.Result.{result_ok}
use Rattle.std.specs.List.{AllByRecursion}
use Rattle.std.specs.List.Sorted.{IsBinarySearchResult, IsNonDecreasingBy, IsPartitionPoint, IsSearchInRange}
use Rattle.std.specs.Ordering.{nat_cmp, ordering_index}
use Rattle.std.specs.declared.cmp.Ordering.TheVariants.{Less, Equal, Greater}
use Rattle.std.proofs.lemmas.Bool.{cases_lt}
use Rattle.std.proofs.lemmas.Bool.Decides.{nat_tests}
use Rattle.std.proofs.lemmas.Cmp.{ranked}
use Rattle.std.proofs.lemmas.List.{length-map}
use Rattle.std.proofs.lemmas.Option.{get_or_from_slice_get, slice_get-get_or, slice_get_within}
use Rattle.list_core.proofs.Items.{one_item, within}
use Rattle.keyed_list.specs.Boxes.{entries_in, opened_by, with_first}
use Rattle.keyed_list.specs.Entries.{Rise, total, item_at, without, with_item}
use Rattle.keyed_list.proofs.EntryLemmas.{all-more, differs_above, rise-front, with_item-above}

-- Keys along a list.

pub all-at : {X : Type 0} (P : X → Type 0) (xs : List X) (n : ℕ) (x : X) → AllByRecursion P xs → slice_get xs n ≡ Some x → P x
all-at P [] n x all at = absurd (let wrong : None ≡ Some x = at in cc)
all-at P (y ∷ xs) zero x all at = subst P (one_item (Some y) y x refl at) all.0
all-at P (y ∷ xs) (suc n) x all at = all-at P xs n x all.1 at

pub all-by-place : {X : Type 0} (P : X → Type 0) (xs : List X) → ((n : ℕ) (x : X) → slice_get xs n ≡ Some x → P x) → AllByRecursion P xs
all-by-place P [] each = tt
all-by-place P (x ∷ xs) each = (each 0 x refl, all-by-place P xs (λ n y at. each (suc n) y at))

rise-at : {X : Type 0} (number : X → ℕ) (xs : List X) → Rise number xs → (i j : ℕ) (x y : X) → i < j → slice_get xs i ≡ Some x → slice_get xs j ≡ Some y → number x < number y
rise-at number [] rise i j x y less left right = absurd (let wrong : None ≡ Some x = left in cc)
rise-at number (z ∷ xs) rise i zero x y less left right = absurd (omega (arith, less))
rise-at number (z ∷ xs) rise zero (suc j) x y less left right =
    subst (λ w. number w < number y) (one_item (Some z) z x refl left) (all-at (λ other. number z < number other) xs j y rise.0 right)
rise-at number (z ∷ xs) rise (suc i) (suc j) x y less left right = rise-at number xs rise.1 i j x y (omega (arith, less)) left right

pub all-last : {X : Type 0} (P : X → Type 0) (xs : List X) (x : X) → AllByRecursion P (xs ++ x ∷ []) → P x
all-last P [] x all = all.0
all-last P (y ∷ xs) x all = all-last P xs x all.1

pub none-below-zero : {X : Type 0} (number : X → ℕ) (xs : List X) → AllByRecursion (λ x. number x < 0) xs → length xs ≡ 0
none-below-zero number [] all = refl
none-below-zero number (x ∷ xs) all = absurd (omega (arith, all.0))

-- all are below what is above the last
pub below-last : {X : Type 0} (number : X → ℕ) (xs : List X) (x : X) (key : ℕ) → Rise number (xs ++ x ∷ []) → number x < key → AllByRecursion (λ y. number y < key) (xs ++ x ∷ [])
below-last number [] x key rise less = (less, tt)
below-last number (y ∷ xs) x key rise less =
    let first = all-last (λ z. number y < number z) xs x rise.0 in
    (omega (arith, first, less), below-last number xs x key rise.1 less)

pub none-listed : {X : Type 0} (xs : List X) → length xs ≡ 0 → xs ≡ []
none-listed [] is = refl
none-listed (x ∷ xs) is = absurd (omega (arith, is))

pub no-items : {X : Type 0} {n : ℕ} (xs : List X) → n ≡ length xs → n ≡ 0 → xs ≡ []
no-items xs len none = none-listed xs (sym len ∙ none)

pub rise-back : {X : Type 0} (number : X → ℕ) (xs ys : List X) → Rise number (xs ++ ys) → Rise number ys
rise-back number [] ys rise = rise
rise-back number (x ∷ xs) ys rise = rise-back number xs ys rise.1

pub all-middle : {X : Type 0} (P : X → Type 0) (xs : List X) (x : X) (ys : List X) → AllByRecursion P (xs ++ x ∷ ys) → P x
all-middle P [] x ys all = all.0
all-middle P (y ∷ xs) x ys all = all-middle P xs x ys all.1

-- all before one are below it
pub below-next : {X : Type 0} (number : X → ℕ) (xs : List X) (x : X) (ys : List X) → Rise number (xs ++ x ∷ ys) → AllByRecursion (λ y. number y < number x) xs
below-next number [] x ys rise = tt
below-next number (y ∷ xs) x ys rise = (all-middle (λ z. number y < number z) xs x ys rise.0, below-next number xs x ys rise.1)

-- one left out of the middle
pub rise-drop : {X : Type 0} (number : X → ℕ) (xs : List X) (x : X) (ys : List X) → Rise number (xs ++ x ∷ ys) → Rise number (xs ++ ys)
rise-drop number [] x ys rise = rise.1
rise-drop {X} number (z ∷ xs) x ys rise = (dropped xs rise.0, rise-drop number xs x ys rise.1)
  where
    dropped : (xs : List X) → AllByRecursion (λ y. number z < number y) (xs ++ x ∷ ys) → AllByRecursion (λ y. number z < number y) (xs ++ ys)
    dropped [] all = all.1
    dropped (y ∷ xs) all = (all.0, dropped xs all.1)

module _ {B : Type 0} where
  -- another item at a place
  all-set : (P : ℕ → Type 0) (ps : List (ℕ × Option B)) (n : ℕ) (q : ℕ × Option B) → P q.0 → AllByRecursion (λ p. P p.0) ps → AllByRecursion (λ p. P p.0) (slice_set ps n q)
  all-set P [] n q own all = tt
  all-set P (p ∷ ps) zero q own all = (own, all.1)
  all-set P (p ∷ ps) (suc n) q own all = (all.0, all-set P ps n q own all.1)

  pub rise-set : (ps : List (ℕ × Option B)) (n : ℕ) (p q : ℕ × Option B) → slice_get ps n ≡ Some p → q.0 ≡ p.0 → Rise (λ p. p.0) ps → Rise (λ p. p.0) (slice_set ps n q)
  rise-set [] n p q at same rise = tt
  rise-set (r ∷ ps) zero p q at same rise =
      let first : r ≡ p = one_item (Some r) r p refl at in
      (subst (λ k. AllByRecursion (λ s. k < s.0) ps) (ap (λ s. s.0) first ∙ sym same) rise.0, rise.1)
  rise-set (r ∷ ps) (suc n) p q at same rise =
      let above : r.0 < p.0 = all-at (λ s. r.0 < s.0) ps n p rise.0 at in
      (all-set (λ k. r.0 < k) ps n q (subst (λ k. r.0 < k) (sym same) above) rise.0, rise-set ps n p q at same rise.1)

  -- none has a key below the first one's
  pub none-before : (key : ℕ) (ps : List (ℕ × Option B)) (first : ℕ × Option B) → first ≡ get_or ps 0 first → key < first.0 → Rise (λ p. p.0) ps →
      AllByRecursion (λ p. (p.0 == key) ≡ false) ps
  none-before key [] first there less rise = tt
  none-before key (p ∷ ps) first there less rise =
      let own : key < p.0 = subst (λ q. key < q.0) there less in
      (grind (arith, nat_tests, own), all-more (λ q. p.0 < q.0) (λ q. (q.0 == key) ≡ false) ps (λ q more. grind (arith, nat_tests, own, more)) rise.0)

  -- how keys compare with one rises along the places
  comparisons_rise : (key : ℕ) (ps : List (ℕ × Option B)) → Rise (λ p. p.0) ps → IsNonDecreasingBy (λ p. ordering_index (nat_cmp p.0 key)) ps
  comparisons_rise key ps rise i j d from within = elim (cases_lt i j) [
    | inl less ↦
        let below : (get_or ps i d).0 < (get_or ps j d).0 =
        rise-at (λ p. p.0) ps rise i j (get_or ps i d) (get_or ps j d) less
        (slice_get-get_or ps i d (omega (arith, less, within))) (slice_get-get_or ps j d within) in
        grind (arith, nat_tests, below)
    | inr least ↦
        let same : i ≡ j = omega (arith, least, from) in
        rw same (omega arith)
  ]

  -- what a search by halves finds
  abbrev pub Finds : ℕ → List (ℕ × Option B) → Option ℕ → Type 0
  Finds key ps place = IfSome place (λ n. IfSome (slice_get ps n) (λ p. p.0 ≡ key) × (n < length ps)) × IfNone place (AllByRecursion (λ p. (p.0 == key) ≡ false) ps)

  pub searched : (key : ℕ) (ps : List (ℕ × Option B)) → Rise (λ p. p.0) ps → (result : Result ℕ ℕ) → IsSearchInRange result (length ps)
      → IsBinarySearchResult (λ p. nat_cmp p.0 key) ps result → Finds key ps (result_ok result)
  searched key ps rise (Ok n) inside equal =
      let there = within ps n inside in
      let same : get_or ps n there.0 ≡ there.0 = get_or_from_slice_get ps n there.0 there.0 there.1 in
      let is : there.0.0 ≡ key = ranked there.0.0 key Equal (sym (equal there.0) ∙ ap (λ p. nat_cmp p.0 key) same) in
      ((rw there.1 is, inside), tt)
  searched key ps rise (Err n) inside parted = (tt, all-by-place (λ p. (p.0 == key) ≡ false) ps differ)
    where
      point : IsPartitionPoint (λ p. nat_cmp p.0 key ≡ Less) (λ p. nat_cmp p.0 key ≡ Greater) ps n
      point = parted (comparisons_rise key ps rise)

      differ : (m : ℕ) (p : ℕ × Option B) → slice_get ps m ≡ Some p → (p.0 == key) ≡ false
      differ m p at = elim (cases_lt m n) [
        | inl before ↦
            let less : p.0 < key = ranked p.0 key Less (sym (point.0 m p (omega arith) before) ∙ ap (λ p. nat_cmp p.0 key) same) in
            grind (arith, nat_tests, less)
        | inr after ↦
            let more : key < p.0 = ranked p.0 key Greater (sym (point.1 m p after (slice_get_within ps m p at)) ∙ ap (λ p. nat_cmp p.0 key) same) in
            grind (arith, nat_tests, more)
      ]
        where
          same : get_or ps m p ≡ p
          same = get_or_from_slice_get ps m p p at

own_key : (key k : ℕ) → k ≡ key → (k == key) ≡ true
own_key key k is = grind (arith, nat_tests, is)

before_key : (key k l : ℕ) → k < l → l ≡ key → (k == key) ≡ false
before_key key k l less is = grind (arith, nat_tests, less, is)

-- Places after others.

n_and_none : (n : ℕ) → n + 0 ≡ n
n_and_none n = omega arith

n_and_more : (n m : ℕ) → n + suc m ≡ suc (n + m)
n_and_more n m = omega arith

module _ {B : Type 0} where
  pub last_out : (far ps : List (ℕ × Option B)) (p : ℕ × Option B) → Rise (λ p. p.0) (far ++ (ps ++ p ∷ [])) → Rise (λ p. p.0) (far ++ ps)
  last_out far ps p rise = rise-front (λ p. p.0) (far ++ ps) (p ∷ []) (subst (λ qs. Rise (λ p. p.0) qs) (sym (append_assoc far ps (p ∷ []))) rise)

  pub middle_out : (far ps : List (ℕ × Option B)) (p : ℕ × Option B) (qs : List (ℕ × Option B)) → Rise (λ p. p.0) (far ++ (ps ++ p ∷ qs)) → Rise (λ p. p.0) (far ++ (ps ++ qs))
  middle_out far ps p qs rise =
      subst (λ qs. Rise (λ p. p.0) qs) (append_assoc far ps qs) (rise-drop (λ p. p.0) (far ++ ps) p qs (subst (λ qs. Rise (λ p. p.0) qs) (sym (append_assoc far ps (p ∷ qs))) rise))

  pub get-after : (far ps : List (ℕ × Option B)) (n : ℕ) (p : ℕ × Option B) → slice_get ps n ≡ Some p → slice_get (far ++ ps) (n + length far) ≡ Some p
  get-after [] ps n p at = ap (λ m. slice_get ps m) (n_and_none n) ∙ at
  get-after (q ∷ far) ps n p at = ap (λ m. slice_get (q ∷ (far ++ ps)) m) (n_and_more n (length far)) ∙ get-after far ps n p at

  pub set-after : (far ps : List (ℕ × Option B)) (n : ℕ) (q : ℕ × Option B) → slice_set (far ++ ps) (n + length far) q ≡ far ++ slice_set ps n q
  set-after [] ps n q = ap (λ m. slice_set ps m q) (n_and_none n)
  set-after (p ∷ far) ps n q = ap (λ m. slice_set (p ∷ (far ++ ps)) m q) (n_and_more n (length far)) ∙ ap (λ rest. p ∷ rest) (set-after far ps n q)

-- what lies at a place that was found
pub at_place : {B : Type 0} (key : ℕ) (qs ps : List (ℕ × Option B)) → qs ≡ ps → (n : ℕ) → IfSome (slice_get qs n) (λ q. q.0 ≡ key) × (n < length qs) → (p : ℕ × Option B) → p ≡ get_or ps n p
    → (slice_get ps n ≡ Some p) × (p.0 ≡ key)
at_place {B} key qs ps same n there p is = (at, subst (λ o. IfSome o (λ q. q.0 ≡ key)) at (subst (λ qs. IfSome (slice_get qs n) (λ q. q.0 ≡ key)) same there.0))
  where
    at : slice_get ps n ≡ Some p
    at = slice_get-get_or ps n p (subst (λ qs. n < length qs) same there.1) ∙ ap (λ q. Some q) (sym is)

-- The entries of places.

module _ {T : Type 0} where
  pub entries-append : (ps qs : List (ℕ × Option T)) → entries_in (ps ++ qs) ≡ entries_in ps ++ entries_in qs
  entries-append [] qs = refl
  entries-append (p ∷ ps) qs = by p.1 (entries-append ps qs)
    where
      by : (o : Option T) → entries_in (ps ++ qs) ≡ entries_in ps ++ entries_in qs → with_first p.0 o (entries_in (ps ++ qs)) ≡ with_first p.0 o (entries_in ps) ++ entries_in qs
      by None rest = rest
      by (Some item) rest = ap (λ es. (p.0, item) ∷ es) rest

  pub all-entries : (P : ℕ → Type 0) (ps : List (ℕ × Option T)) → AllByRecursion (λ p. P p.0) ps → AllByRecursion (λ e. P e.0) (entries_in ps)
  all-entries P [] all = tt
  all-entries P (p ∷ ps) all = by p.1 (all-entries P ps all.1)
    where
      by : (o : Option T) → AllByRecursion (λ e. P e.0) (entries_in ps) → AllByRecursion (λ e. P e.0) (with_first p.0 o (entries_in ps))
      by None rest = rest
      by (Some item) rest = (all.0, rest)

  pub rise-entries : (ps : List (ℕ × Option T)) → Rise (λ p. p.0) ps → Rise (λ e. e.0) (entries_in ps)
  rise-entries [] rise = tt
  rise-entries (p ∷ ps) rise = by p.1 (rise-entries ps rise.1)
    where
      by : (o : Option T) → Rise (λ e. e.0) (entries_in ps) → Rise (λ e. e.0) (with_first p.0 o (entries_in ps))
      by None rest = rest
      by (Some item) rest = (all-entries (λ k. p.0 < k) ps rise.0, rest)

  -- Where no place has a key.

  pub absent : (key : ℕ) (ps : List (ℕ × Option T)) → AllByRecursion (λ p. (p.0 == key) ≡ false) ps → item_at key (entries_in ps) ≡ None
  absent key [] all = refl
  absent key (p ∷ ps) all = by p.1 (absent key ps all.1)
    where
      by : (o : Option T) → item_at key (entries_in ps) ≡ None → item_at key (with_first p.0 o (entries_in ps)) ≡ None
      by None rest = rest
      by (Some item) rest = let other : (p.0 == key) ≡ false = all.0 in rw other rest

  pub absent-without : (key : ℕ) (ps : List (ℕ × Option T)) → AllByRecursion (λ p. (p.0 == key) ≡ false) ps → without key (entries_in ps) ≡ entries_in ps
  absent-without key [] all = refl
  absent-without key (p ∷ ps) all = by p.1 (absent-without key ps all.1)
    where
      by : (o : Option T) → without key (entries_in ps) ≡ entries_in ps → without key (with_first p.0 o (entries_in ps)) ≡ with_first p.0 o (entries_in ps)
      by None rest = rest
      by (Some item) rest = let other : (p.0 == key) ≡ false = all.0 in rw other (ap (λ es. (p.0, item) ∷ es) rest)

  absent-with_item : (key : ℕ) (item : T) (ps : List (ℕ × Option T)) → AllByRecursion (λ p. (p.0 == key) ≡ false) ps → with_item key (entries_in ps) item ≡ entries_in ps
  absent-with_item key item [] all = refl
  absent-with_item key item (p ∷ ps) all = by p.1 (absent-with_item key item ps all.1)
    where
      by : (o : Option T) → with_item key (entries_in ps) item ≡ entries_in ps → with_item key (with_first p.0 o (entries_in ps)) item ≡ with_first p.0 o (entries_in ps)
      by None rest = rest
      by (Some own) rest = let other : (p.0 == key) ≡ false = all.0 in rw other (ap (λ es. (p.0, own) ∷ es) rest)

  pub above-differ : (key : ℕ) (k : ℕ) (ps : List (ℕ × Option T)) → (k == key) ≡ true → AllByRecursion (λ p. k < p.0) ps → AllByRecursion (λ p. (p.0 == key) ≡ false) ps
  above-differ key k ps is all = all-more (λ p. k < p.0) (λ p. (p.0 == key) ≡ false) ps (λ p above. differs_above key k p.0 is above) all

  -- At the place of a key.
  module _ (key : ℕ) where
    pub found : (ps : List (ℕ × Option T)) (n : ℕ) (p : ℕ × Option T) → Rise (λ p. p.0) ps → slice_get ps n ≡ Some p → p.0 ≡ key → item_at key (entries_in ps) ≡ p.1
    found [] n p rise at is = absurd (let wrong : None ≡ Some p = at in cc)
    found (q ∷ ps) zero p rise at is = by q.1 refl
      where
        first : q ≡ p
        first = one_item (Some q) q p refl at

        same : (q.0 == key) ≡ true
        same = own_key key q.0 (ap (λ r. r.0) first ∙ is)

        by : (o : Option T) → q.1 ≡ o → item_at key (with_first q.0 o (entries_in ps)) ≡ p.1
        by None own = absent key ps (above-differ key q.0 ps same rise.0) ∙ sym own ∙ ap (λ r. r.1) first
        by (Some item) own = rw same (sym own ∙ ap (λ r. r.1) first)
    found (q ∷ ps) (suc n) p rise at is = by q.1 (found ps n p rise.1 at is)
      where
        other : (q.0 == key) ≡ false
        other = before_key key q.0 p.0 (all-at (λ r. q.0 < r.0) ps n p rise.0 at) is

        by : (o : Option T) → item_at key (entries_in ps) ≡ p.1 → item_at key (with_first q.0 o (entries_in ps)) ≡ p.1
        by None rest = rest
        by (Some item) rest = rw other rest

    -- the place without its item
    pub emptied : (ps : List (ℕ × Option T)) (n : ℕ) (p : ℕ × Option T) → Rise (λ p. p.0) ps → slice_get ps n ≡ Some p → p.0 ≡ key
        → entries_in (slice_set ps n (p.0, None)) ≡ without key (entries_in ps)
    emptied [] n p rise at is = refl
    emptied (q ∷ ps) zero p rise at is = by q.1
      where
        same : (q.0 == key) ≡ true
        same = own_key key q.0 (ap (λ r. r.0) (one_item (Some q) q p refl at) ∙ is)

        by : (o : Option T) → entries_in ps ≡ without key (with_first q.0 o (entries_in ps))
        by None = sym (absent-without key ps (above-differ key q.0 ps same rise.0))
        by (Some item) = rw same (sym (absent-without key ps (above-differ key q.0 ps same rise.0)))
    emptied (q ∷ ps) (suc n) p rise at is = by q.1 (emptied ps n p rise.1 at is)
      where
        other : (q.0 == key) ≡ false
        other = before_key key q.0 p.0 (all-at (λ r. q.0 < r.0) ps n p rise.0 at) is

        by : (o : Option T) → entries_in (slice_set ps n (p.0, None)) ≡ without key (entries_in ps)
            → with_first q.0 o (entries_in (slice_set ps n (p.0, None))) ≡ without key (with_first q.0 o (entries_in ps))
        by None rest = rest
        by (Some item) rest = rw other (ap (λ es. (q.0, item) ∷ es) rest)

    -- the place with another item
    pub written : (item was : T) (ps : List (ℕ × Option T)) (n : ℕ) (p : ℕ × Option T) → Rise (λ p. p.0) ps → slice_get ps n ≡ Some p → p.0 ≡ key → p.1 ≡ Some was
        → entries_in (slice_set ps n (p.0, Some item)) ≡ with_item key (entries_in ps) item
    written item was [] n p rise at is some = refl
    written item was (q ∷ ps) zero p rise at is some = by q.1 refl
      where
        first : q ≡ p
        first = one_item (Some q) q p refl at

        key_of : q.0 ≡ p.0
        key_of = ap (λ r. r.0) first

        same : (q.0 == key) ≡ true
        same = own_key key q.0 (key_of ∙ is)

        by : (o : Option T) → q.1 ≡ o → (p.0, item) ∷ entries_in ps ≡ with_item key (with_first q.0 o (entries_in ps)) item
        by None own = absurd (let wrong : None ≡ Some was = sym own ∙ ap (λ r. r.1) first ∙ some in cc)
        by (Some before) own =
            rw same (ap (λ k. (k, item) ∷ entries_in ps) (sym key_of)
            ∙ ap (λ es. (q.0, item) ∷ es) (sym (with_item-above key item q.0 (entries_in ps) same (all-entries (λ k. q.0 < k) ps rise.0))))
    written item was (q ∷ ps) (suc n) p rise at is some = by q.1 (written item was ps n p rise.1 at is some)
      where
        other : (q.0 == key) ≡ false
        other = before_key key q.0 p.0 (all-at (λ r. q.0 < r.0) ps n p rise.0 at) is

        by : (o : Option T) → entries_in (slice_set ps n (p.0, Some item)) ≡ with_item key (entries_in ps) item
            → with_first q.0 o (entries_in (slice_set ps n (p.0, Some item))) ≡ with_item key (with_first q.0 o (entries_in ps)) item
        by None rest = rest
        by (Some before) rest = rw other (ap (λ es. (q.0, before) ∷ es) rest)

  -- what is left is worth less by what was taken
  pub total-emptied : (worth : ℕ × T → ℕ) (item : T) (ps : List (ℕ × Option T)) (n : ℕ) (p : ℕ × Option T) → slice_get ps n ≡ Some p → p.1 ≡ Some item
      → total worth (entries_in (slice_set ps n (p.0, None))) + worth (p.0, item) ≡ total worth (entries_in ps)
  total-emptied worth item [] n p at some = absurd (let wrong : None ≡ Some p = at in cc)
  total-emptied worth item (q ∷ ps) zero p at some = by q.1 refl
    where
      first : q ≡ p
      first = one_item (Some q) q p refl at

      by : (o : Option T) → q.1 ≡ o → total worth (entries_in ps) + worth (p.0, item) ≡ total worth (with_first q.0 o (entries_in ps))
      by None own = absurd (let wrong : None ≡ Some item = sym own ∙ ap (λ r. r.1) first ∙ some in cc)
      by (Some before) own =
          let it : before ≡ item = let one : Some before ≡ Some item = sym own ∙ ap (λ r. r.1) first ∙ some in cc in
          let weighs : worth (p.0, item) ≡ worth (q.0, before) = ap (λ k. worth (k, item)) (ap (λ r. r.0) (sym first)) ∙ ap (λ y. worth (q.0, y)) (sym it) in
          omega (arith, weighs)
  total-emptied worth item (q ∷ ps) (suc n) p at some = by q.1 (total-emptied worth item ps n p at some)
    where
      by : (o : Option T) → total worth (entries_in (slice_set ps n (p.0, None))) + worth (p.0, item) ≡ total worth (entries_in ps)
          → total worth (with_first q.0 o (entries_in (slice_set ps n (p.0, None)))) + worth (p.0, item) ≡ total worth (with_first q.0 o (entries_in ps))
      by None rest = rest
      by (Some before) rest = omega (arith, rest)

  pub total-ones : (es : List (ℕ × T)) → total (λ e. 1) es ≡ length es
  total-ones [] = refl
  total-ones (e ∷ es) = let rest = total-ones es in omega (arith, rest)

-- Places of boxes.

module _ {B T : Type 0} (value : B → T) where
  pub opened-append : (ps qs : List (ℕ × Option B)) → opened_by value (ps ++ qs) ≡ opened_by value ps ++ opened_by value qs
  opened-append [] qs = refl
  opened-append (p ∷ ps) qs = ap (λ rest. (p.0, option_map value p.1) ∷ rest) (opened-append ps qs)

  pub opened-set : (ps : List (ℕ × Option B)) (n : ℕ) (p : ℕ × Option B) → opened_by value (slice_set ps n p) ≡ slice_set (opened_by value ps) n (p.0, option_map value p.1)
  opened-set [] n p = refl
  opened-set (q ∷ ps) zero p = refl
  opened-set (q ∷ ps) (suc n) p = ap (λ rest. (q.0, option_map value q.1) ∷ rest) (opened-set ps n p)

  pub opened-get : (ps : List (ℕ × Option B)) (n : ℕ) (p : ℕ × Option B) → slice_get ps n ≡ Some p → slice_get (opened_by value ps) n ≡ Some (p.0, option_map value p.1)
  opened-get [] n p at = absurd (let wrong : None ≡ Some p = at in cc)
  opened-get (q ∷ ps) zero p at = ap (λ r. Some (r.0, option_map value r.1)) (one_item (Some q) q p refl at)
  opened-get (q ∷ ps) (suc n) p at = opened-get ps n p at

  pub opened-all : (P : ℕ → Type 0) (ps : List (ℕ × Option B)) → AllByRecursion (λ p. P p.0) ps → AllByRecursion (λ p. P p.0) (opened_by value ps)
  opened-all P [] all = tt
  opened-all P (p ∷ ps) all = (all.0, opened-all P ps all.1)

  pub opened-rise : (ps : List (ℕ × Option B)) → Rise (λ p. p.0) ps → Rise (λ p. p.0) (opened_by value ps)
  opened-rise [] rise = tt
  opened-rise (p ∷ ps) rise = (opened-all (λ k. p.0 < k) ps rise.0, opened-rise ps rise.1)

  -- one more place at the end
  pub entries-last : (ps : List (ℕ × Option B)) (p : ℕ × Option B) → entries_in (opened_by value (ps ++ p ∷ [])) ≡ entries_in (opened_by value ps) ++ with_first p.0 (option_map value p.1) []
  entries-last ps p = ap entries_in (opened-append ps (p ∷ [])) ∙ entries-append (opened_by value ps) ((p.0, option_map value p.1) ∷ [])

  -- what a box at the place of a key is to the entries

  pub item_is : (key : ℕ) (ps : List (ℕ × Option B)) (n : ℕ) (p : ℕ × Option B) → Rise (λ p. p.0) ps → slice_get ps n ≡ Some p → p.0 ≡ key → option_map value p.1 ≡ item_at key (entries_in (opened_by value ps))
  item_is key ps n p rise at is = sym (found key (opened_by value ps) n (p.0, option_map value p.1) (opened-rise ps rise) (opened-get ps n p at) is)

  pub no_item : (key : ℕ) (ps : List (ℕ × Option B)) → AllByRecursion (λ p. (p.0 == key) ≡ false) ps → item_at key (entries_in (opened_by value ps)) ≡ None
  no_item key ps all = absent key (opened_by value ps) (opened-all (λ k. (k == key) ≡ false) ps all)

  pub none_left_out : (key : ℕ) (ps : List (ℕ × Option B)) → AllByRecursion (λ p. (p.0 == key) ≡ false) ps → without key (entries_in (opened_by value ps)) ≡ entries_in (opened_by value ps)
  none_left_out key ps all = absent-without key (opened_by value ps) (opened-all (λ k. (k == key) ≡ false) ps all)

  pub none_changed : (key : ℕ) (item : T) (ps : List (ℕ × Option B)) → AllByRecursion (λ p. (p.0 == key) ≡ false) ps → with_item key (entries_in (opened_by value ps)) item ≡ entries_in (opened_by value ps)
  none_changed key item ps all = absent-with_item key item (opened_by value ps) (opened-all (λ k. (k == key) ≡ false) ps all)

  pub left_out : (key : ℕ) (ps : List (ℕ × Option B)) (n : ℕ) (p : ℕ × Option B) → Rise (λ p. p.0) ps → slice_get ps n ≡ Some p → p.0 ≡ key
      → entries_in (opened_by value (slice_set ps n (p.0, None))) ≡ without key (entries_in (opened_by value ps))
  left_out key ps n p rise at is =
      ap entries_in (opened-set ps n (p.0, None)) ∙ emptied key (opened_by value ps) n (p.0, option_map value p.1) (opened-rise ps rise) (opened-get ps n p at) is

  pub put_in : (key : ℕ) (own was : B) (ps : List (ℕ × Option B)) (n : ℕ) (p : ℕ × Option B) → Rise (λ p. p.0) ps → slice_get ps n ≡ Some p → p.0 ≡ key → p.1 ≡ Some was
      → entries_in (opened_by value (slice_set ps n (p.0, Some own))) ≡ with_item key (entries_in (opened_by value ps)) (value own)
  put_in key own was ps n p rise at is some =
      ap entries_in (opened-set ps n (p.0, Some own))
      ∙ written key (value own) (value was) (opened_by value ps) n (p.0, option_map value p.1) (opened-rise ps rise) (opened-get ps n p at) is (ap (option_map value) some)

  pub same_count : (key : ℕ) (own was : B) (ps : List (ℕ × Option B)) (n : ℕ) (p : ℕ × Option B) → Rise (λ p. p.0) ps → slice_get ps n ≡ Some p → p.0 ≡ key → p.1 ≡ Some was
      → length (entries_in (opened_by value (slice_set ps n (p.0, Some own)))) ≡ length (entries_in (opened_by value ps))
  same_count key own was ps n p rise at is some = ap length (put_in key own was ps n p rise at is some) ∙ length-map (entries_in (opened_by value ps)) _

  pub worth_left : (worth : ℕ × T → ℕ) (own : B) (ps : List (ℕ × Option B)) (n : ℕ) (p : ℕ × Option B) → slice_get ps n ≡ Some p → p.1 ≡ Some own
      → total worth (entries_in (opened_by value (slice_set ps n (p.0, None)))) + worth (p.0, value own) ≡ total worth (entries_in (opened_by value ps))
  worth_left worth own ps n p at some =
      ap (λ es. total worth es + worth (p.0, value own)) (ap entries_in (opened-set ps n (p.0, None)))
      ∙ total-emptied worth (value own) (opened_by value ps) n (p.0, option_map value p.1) (opened-get ps n p at) (ap (option_map value) some)

  pub one_less : (own : B) (ps : List (ℕ × Option B)) (n : ℕ) (p : ℕ × Option B) → slice_get ps n ≡ Some p → p.1 ≡ Some own
      → length (entries_in (opened_by value (slice_set ps n (p.0, None)))) + 1 ≡ length (entries_in (opened_by value ps))
  one_less own ps n p at some =
      ap (λ m. m + 1) (sym (total-ones (entries_in (opened_by value (slice_set ps n (p.0, None)))))) ∙ worth_left (λ e. 1) own ps n p at some ∙ total-ones (entries_in (opened_by value ps))

  -- the places go on as they are, and one of them is empty
  pub skipped : (ps qs : List (ℕ × Option B)) (k : ℕ) → entries_in (opened_by value (ps ++ (k, None) ∷ qs)) ≡ entries_in (opened_by value (ps ++ qs))
  skipped [] qs k = refl
  skipped (p ∷ ps) qs k = ap (with_first p.0 (option_map value p.1)) (skipped ps qs k)

  -- near places, after those of the tree

  pub near_item : (key : ℕ) (far ps : List (ℕ × Option B)) (n : ℕ) (p : ℕ × Option B) → Rise (λ p. p.0) (far ++ ps) → slice_get ps n ≡ Some p → p.0 ≡ key
      → option_map value p.1 ≡ item_at key (entries_in (opened_by value (far ++ ps)))
  near_item key far ps n p rise at is = item_is key (far ++ ps) (n + length far) p rise (get-after far ps n p at) is

  pub near_left : (key : ℕ) (far ps : List (ℕ × Option B)) (n : ℕ) (p : ℕ × Option B) → Rise (λ p. p.0) (far ++ ps) → slice_get ps n ≡ Some p → p.0 ≡ key
      → entries_in (opened_by value (far ++ slice_set ps n (p.0, None))) ≡ without key (entries_in (opened_by value (far ++ ps)))
  near_left key far ps n p rise at is =
      ap (λ ps. entries_in (opened_by value ps)) (sym (set-after far ps n (p.0, None))) ∙ left_out key (far ++ ps) (n + length far) p rise (get-after far ps n p at) is

  pub near_put : (key : ℕ) (own was : B) (far ps : List (ℕ × Option B)) (n : ℕ) (p : ℕ × Option B) → Rise (λ p. p.0) (far ++ ps) → slice_get ps n ≡ Some p → p.0 ≡ key → p.1 ≡ Some was
      → entries_in (opened_by value (far ++ slice_set ps n (p.0, Some own))) ≡ with_item key (entries_in (opened_by value (far ++ ps))) (value own)
  near_put key own was far ps n p rise at is some =
      ap (λ ps. entries_in (opened_by value ps)) (sym (set-after far ps n (p.0, Some own))) ∙ put_in key own was (far ++ ps) (n + length far) p rise (get-after far ps n p at) is some

  pub near_same_count : (key : ℕ) (own was : B) (far ps : List (ℕ × Option B)) (n : ℕ) (p : ℕ × Option B) → Rise (λ p. p.0) (far ++ ps) → slice_get ps n ≡ Some p → p.0 ≡ key → p.1 ≡ Some was
      → length (entries_in (opened_by value (far ++ slice_set ps n (p.0, Some own)))) ≡ length (entries_in (opened_by value (far ++ ps)))
  near_same_count key own was far ps n p rise at is some = ap length (near_put key own was far ps n p rise at is some) ∙ length-map (entries_in (opened_by value (far ++ ps))) _

  pub near_rise : (far ps : List (ℕ × Option B)) (n : ℕ) (p q : ℕ × Option B) → slice_get ps n ≡ Some p → q.0 ≡ p.0 → Rise (λ p. p.0) (far ++ ps) → Rise (λ p. p.0) (far ++ slice_set ps n q)
  near_rise far ps n p q at same rise =
      subst (λ ps. Rise (λ p. p.0) ps) (set-after far ps n q) (rise-set (far ++ ps) (n + length far) p q (get-after far ps n p at) same rise)

  pub near_worth : (worth : ℕ × T → ℕ) (own : B) (far ps : List (ℕ × Option B)) (n : ℕ) (p : ℕ × Option B) → slice_get ps n ≡ Some p → p.1 ≡ Some own
      → total worth (entries_in (opened_by value (far ++ slice_set ps n (p.0, None)))) + worth (p.0, value own) ≡ total worth (entries_in (opened_by value (far ++ ps)))
  near_worth worth own far ps n p at some =
      ap (λ ps. total worth (entries_in (opened_by value ps)) + worth (p.0, value own)) (sym (set-after far ps n (p.0, None))) ∙ worth_left worth own (far ++ ps) (n + length far) p (get-after far ps n p at) some

  pub near_one_less : (own : B) (far ps : List (ℕ × Option B)) (n : ℕ) (p : ℕ × Option B) → slice_get ps n ≡ Some p → p.1 ≡ Some own
      → length (entries_in (opened_by value (far ++ slice_set ps n (p.0, None)))) + 1 ≡ length (entries_in (opened_by value (far ++ ps)))
  near_one_less own far ps n p at some =
      ap (λ ps. length (entries_in (opened_by value ps)) + 1) (sym (set-after far ps n (p.0, None))) ∙ one_less own (far ++ ps) (n + length far) p (get-after far ps n p at) some

  pub entries-both : (ps qs : List (ℕ × Option B)) → entries_in (opened_by value (ps ++ qs)) ≡ entries_in (opened_by value ps) ++ entries_in (opened_by value qs)
  entries-both ps qs = ap entries_in (opened-append ps qs) ∙ entries-append (opened_by value ps) (opened_by value qs)

  pub same-after : (far ps qs : List (ℕ × Option B)) → entries_in (opened_by value ps) ≡ entries_in (opened_by value qs) → entries_in (opened_by value (far ++ ps)) ≡ entries_in (opened_by value (far ++ qs))
  same-after far ps qs same = entries-both far ps ∙ ap (λ es. entries_in (opened_by value far) ++ es) same ∙ sym (entries-both far qs)
