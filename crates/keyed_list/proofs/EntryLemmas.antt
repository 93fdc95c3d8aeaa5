-- Entries by rising keys: what is above a key, and what stays true of them.
use Rattle.std.proofs.Common.{◌≡◌, ℕ, ◌<◌, ◌≤◌, Bool, true, false, not, List, [], ◌∷◌, ◌++◌, length, refl, sym, ap, subst, arith, length-append}
use Rattle.std.specs.Prelude.{filter, ◌==◌, if◌then◌else◌}
use Rattle.std.specs.List.{AllByRecursion}
use Rattle.std.proofs.lemmas.Bool.Decides.{nat_tests}
use Rattle.std.proofs.lemmas.List.{length-map}
use Rattle.std.proofs.lemmas.List.Filters.{length-filter_both}
use Rattle.keyed_list.specs.Entries.{Rise, AreKept, IsFew, has_key, without, with_item}
pub use Rattle.list_core.proofs.AllLemmas.{all-append, all-filter, all-more}

-- Facts of each item, and numbers that rise.

pub all-front : {X : Type 0} (P : X → Type 0) (xs ys : List X) → AllByRecursion P (xs ++ ys) → AllByRecursion P xs
all-front P [] ys all = tt
all-front P (x ∷ xs) ys all = (all.0, all-front P xs ys all.1)

pub rise-filter : {X : Type 0} (number : X → ℕ) (test : X → Bool) (xs : List X) → Rise number xs → Rise number (filter test xs)
rise-filter number test [] rise = tt
rise-filter {X} number test (x ∷ xs) rise = by (test x) refl (rise-filter number test xs rise.1)
  where
    by : (b : Bool) → test x ≡ b → Rise number (filter test xs) → Rise number (filter test (x ∷ xs))
    by true is rest = rw is (all-filter (λ y. number x < number y) test xs rise.0, rest)
    by false is rest = rw is rest

-- one more, above all others
pub rise-last : {X : Type 0} (number : X → ℕ) (xs : List X) (x : X) → Rise number xs → AllByRecursion (λ y. number y < number x) xs → Rise number (xs ++ x ∷ [])
rise-last number [] x rise below = (tt, tt)
rise-last number (y ∷ xs) x rise below = (all-append (λ z. number y < number z) xs (x ∷ []) rise.0 (below.0, tt), rise-last number xs x rise.1 below.1)

pub rise-front : {X : Type 0} (number : X → ℕ) (xs ys : List X) → Rise number (xs ++ ys) → Rise number xs
rise-front number [] ys rise = tt
rise-front number (x ∷ xs) ys rise = (all-front (λ y. number x < number y) xs ys rise.0, rise-front number xs ys rise.1)

-- Above a key there are others.

pub differs_above : (key k l : ℕ) → (k == key) ≡ true → k < l → (l == key) ≡ false
differs_above key k l is less = grind (arith, nat_tests, is, less)

module _ {T : Type 0} (key : ℕ) where
  -- Above a key nothing has it.

  pub with_item-above : (item : T) (k : ℕ) (es : List (ℕ × T)) → (k == key) ≡ true → AllByRecursion (λ e. k < e.0) es → with_item key es item ≡ es
  with_item-above item k [] is above = refl
  with_item-above item k (e ∷ es) is above = let differs = differs_above key k e.0 is above.0 in rw differs (ap (λ es. e ∷ es) (with_item-above item k es is above.1))

  -- What stays true of the entries.

  pub keys-with_item : (P : ℕ → Type 0) (item : T) (es : List (ℕ × T)) → AllByRecursion (λ e. P e.0) es → AllByRecursion (λ e. P e.0) (with_item key es item)
  keys-with_item P item [] all = tt
  keys-with_item P item (e ∷ es) all = by (e.0 == key) (keys-with_item P item es all.1)
    where
      by : (b : Bool) → AllByRecursion (λ e. P e.0) (with_item key es item) → AllByRecursion (λ e. P e.0) ((if b then (e.0, item) else e) ∷ with_item key es item)
      by true more = (all.0, more)
      by false more = (all.0, more)

  pub rise-with_item : (item : T) (es : List (ℕ × T)) → Rise (λ e. e.0) es → Rise (λ e. e.0) (with_item key es item)
  rise-with_item item [] rise = tt
  rise-with_item item (e ∷ es) rise = by (e.0 == key) (keys-with_item (λ k. e.0 < k) item es rise.0) (rise-with_item item es rise.1)
    where
      by : (b : Bool) → AllByRecursion (λ f. e.0 < f.0) (with_item key es item) → Rise (λ e. e.0) (with_item key es item) → Rise (λ e. e.0) ((if b then (e.0, item) else e) ∷ with_item key es item)
      by true above more = (above, more)
      by false above more = (above, more)

  pub rise-without : (es : List (ℕ × T)) → Rise (λ e. e.0) es → Rise (λ e. e.0) (without key es)
  rise-without es rise = rise-filter (λ e. e.0) (λ e. not (has_key key e)) es rise

  pub length-without : (es : List (ℕ × T)) → length (without key es) ≤ length es
  length-without es =
      let both = length-filter_both (λ e. not (has_key key e)) (λ e. not (not (has_key key e))) (λ e. refl) es in
      omega (arith, both)

-- The keys rise, and the entries are few.
module _ {T : Type 0} where
  pub kept-with_item : (key : ℕ) (item : T) (es new' : List (ℕ × T)) → new' ≡ with_item key es item → AreKept es → AreKept new'
  kept-with_item key item es new' is kept = subst (λ es. AreKept es) (sym is) record {
    rise = rise-with_item key item es kept.rise;
    few = subst IsFew (sym (length-map es _)) kept.few;
  }

  pub kept-without : (key : ℕ) (es new' : List (ℕ × T)) → new' ≡ without key es → AreKept es → AreKept new'
  kept-without key es new' is kept = subst (λ es. AreKept es) (sym is) record {
    rise = rise-without key es kept.rise;
    few = let less = length-without key es in let was = kept.few in omega (arith, less, was);
  }

  pub kept-front : (es new' : List (ℕ × T)) (e : ℕ × T) → es ≡ new' ++ e ∷ [] → AreKept es → AreKept new'
  kept-front es new' e is kept = record {
    rise = rise-front (λ e. e.0) new' (e ∷ []) (subst (λ es. Rise (λ e. e.0) es) is kept.rise);
    few =
        let all = ap length is in
        let one = length-append new' (e ∷ []) in
        let was = kept.few in
        omega (arith, all, one, was);
  }
