-- Items under their own numbers: what is done to the entries is done to the list of the items.
use Rattle.std.proofs.Common.{◌≡◌, ℕ, ◌+◌, ◌<◌, ◌≤◌, Bool, true, false, not, List, [], ◌∷◌, ◌++◌, length, Some, refl, sym, ap, ◌∙◌, arith}
use Rattle.std.specs.Prelude.{filter, find, map, ◌==◌, if◌then◌else◌}
use Rattle.std.specs.List.{AllByRecursion}
use Rattle.std.proofs.lemmas.Bool.Decides.{nat_tests}
use Rattle.list_core.proofs.PlaceLemmas.{find-passes}
use Rattle.keyed_list.specs.Entries.{Rise, total, item_at, without, with_item, items_of, AreNumbered}
use Rattle.keyed_list.proofs.EntryLemmas.{differs_above, with_item-above}

module _ {T : Type 0} where
  pub items-append : (es fs : List (ℕ × T)) → items_of (es ++ fs) ≡ items_of es ++ items_of fs
  items-append [] fs = refl
  items-append (e ∷ es) fs = ap (λ items. e.1 ∷ items) (items-append es fs)

  -- a measure that does not look at the key
  pub total-items : (worth : T → ℕ) (es : List (ℕ × T)) → total (λ e. worth e.1) es ≡ total worth (items_of es)
  total-items worth [] = refl
  total-items worth (e ∷ es) = ap (λ n. worth e.1 + n) (total-items worth es)

  -- what was taken out of the entries was taken out of the items
  pub total-taken : (es new' : List (ℕ × T)) (key : ℕ) (item : T) → ((worth : ℕ × T → ℕ) → total worth new' + worth (key, item) ≡ total worth es)
      → (worth : T → ℕ) → total worth (items_of new') + worth item ≡ total worth (items_of es)
  total-taken es new' key item counts worth = ap (λ n. n + worth item) (sym (total-items worth new')) ∙ counts (λ e. worth e.1) ∙ total-items worth es

  pub total-append : (worth : T → ℕ) (xs ys : List T) → total worth (xs ++ ys) ≡ total worth xs + total worth ys
  total-append worth [] ys = omega arith
  total-append worth (x ∷ xs) ys = let more = total-append worth xs ys in omega (arith, more)

  -- what is worth one at most is worth no more than there are items
  pub total-at_most : (worth : T → ℕ) → ((item : T) → worth item ≤ 1) → (items : List T) → total worth items ≤ length items
  total-at_most worth most [] = omega arith
  total-at_most worth most (item ∷ items) =
      let one = most item in
      let more = total-at_most worth most items in
      omega (arith, one, more)

  -- what the item of a key was worth, and what the other one is worth
  pub total-with_item : (worth : T → ℕ) (key : ℕ) (was item : T) (es : List (ℕ × T)) → Rise (λ e. e.0) es → item_at key es ≡ Some was
      → total worth (items_of (with_item key es item)) + worth was ≡ total worth (items_of es) + worth item
  total-with_item worth key was item [] rise there = absurd (cc)
  total-with_item worth key was item (e ∷ es) rise there = by (e.0 == key) refl (total-with_item worth key was item es rise.1)
    where
      by : (b : Bool) → (e.0 == key) ≡ b → (item_at key es ≡ Some was → total worth (items_of (with_item key es item)) + worth was ≡ total worth (items_of es) + worth item)
          → total worth (items_of (with_item key (e ∷ es) item)) + worth was ≡ total worth (items_of (e ∷ es)) + worth item
      by true is rest =
          let it : e.1 ≡ was = let one : Some e.1 ≡ Some was = rw is at there in cc in
          let weighs : worth e.1 ≡ worth was = ap worth it in
          let others : total worth (items_of (with_item key es item)) ≡ total worth (items_of es) = ap (λ es. total worth (items_of es)) (with_item-above key item e.0 es is rise.0) in
          rw is (omega (arith, weighs, others))
      by false is rest =
          let more : total worth (items_of (with_item key es item)) + worth was ≡ total worth (items_of es) + worth item = rest (rw is at there) in
          rw is (omega (arith, more))

module _ {T : Type 0} (number : T → ℕ) where
  same_test : (key : ℕ) (e : ℕ × T) → e.0 ≡ number e.1 → (b : Bool) → (e.0 == key) ≡ b → (number e.1 == key) ≡ b
  same_test key e own b is = ap (λ n. n == key) (sym own) ∙ is

  pub item_at-is : (key : ℕ) (es : List (ℕ × T)) → AreNumbered number es → item_at key es ≡ find (λ item. number item == key) (items_of es)
  item_at-is key [] own = refl
  item_at-is key (e ∷ es) own = by (e.0 == key) refl (item_at-is key es own.1)
    where
      by : (b : Bool) → (e.0 == key) ≡ b → item_at key es ≡ find (λ item. number item == key) (items_of es) → item_at key (e ∷ es) ≡ find (λ item. number item == key) (items_of (e ∷ es))
      by true is rest = let same = same_test key e own.0 true is in rw (is, same) refl
      by false is rest = let same = same_test key e own.0 false is in rw (is, same) rest

  pub without-is : (key : ℕ) (es : List (ℕ × T)) → AreNumbered number es → items_of (without key es) ≡ filter (λ item. not (number item == key)) (items_of es)
  without-is key [] own = refl
  without-is key (e ∷ es) own = by (e.0 == key) refl (without-is key es own.1)
    where
      by : (b : Bool) → (e.0 == key) ≡ b → items_of (without key es) ≡ filter (λ item. not (number item == key)) (items_of es)
          → items_of (without key (e ∷ es)) ≡ filter (λ item. not (number item == key)) (items_of (e ∷ es))
      by true is rest = let same = same_test key e own.0 true is in rw (is, same) rest
      by false is rest = let same = same_test key e own.0 false is in rw (is, same) (ap (λ items. e.1 ∷ items) rest)

  -- above its key no other item changes
  unchanged_above : (key k : ℕ) (change : T → T) (es : List (ℕ × T)) → (k == key) ≡ true → AllByRecursion (λ e. k < e.0) es → AreNumbered number es
      → map (λ item. if number item == key then change item else item) (items_of es) ≡ items_of es
  unchanged_above key k change [] is above own = refl
  unchanged_above key k change (e ∷ es) is above own =
      let same = same_test key e own.0 false (differs_above key k e.0 is above.0) in
      rw same (ap (λ items. e.1 ∷ items) (unchanged_above key k change es is above.1 own.1))

  -- the item of a key changed
  pub with_item-is : (key : ℕ) (was : T) (change : T → T) (es : List (ℕ × T)) → AreNumbered number es → Rise (λ e. e.0) es → item_at key es ≡ Some was
      → items_of (with_item key es (change was)) ≡ map (λ item. if number item == key then change item else item) (items_of es)
  with_item-is key was change [] own rise there = refl
  with_item-is key was change (e ∷ es) own rise there = by (e.0 == key) refl (with_item-is key was change es own.1 rise.1)
    where
      by : (b : Bool) → (e.0 == key) ≡ b → (item_at key es ≡ Some was → items_of (with_item key es (change was)) ≡ map (λ item. if number item == key then change item else item) (items_of es))
          → items_of (with_item key (e ∷ es) (change was)) ≡ map (λ item. if number item == key then change item else item) (items_of (e ∷ es))
      by true is rest =
          let same = same_test key e own.0 true is in
          let it : e.1 ≡ was = let one : Some e.1 ≡ Some was = rw is at there in cc in
          rw (is, same) (ap (λ r. change r ∷ items_of (with_item key es (change was))) (sym it)
          ∙ ap (λ items. change e.1 ∷ items) (ap items_of (with_item-above key (change was) e.0 es is rise.0) ∙ sym (unchanged_above key e.0 change es is rise.0 own.1)))
      by false is rest =
          let same = same_test key e own.0 false is in
          rw (is, same) (ap (λ items. e.1 ∷ items) (rest (rw is at there)))

  -- the item that is found has the key for its number
  pub number-found : (key : ℕ) (item : T) (es : List (ℕ × T)) → AreNumbered number es → item_at key es ≡ Some item → number item ≡ key
  number-found key item es own there =
      let passes = find-passes (λ item. number item == key) (items_of es) item (sym (item_at-is key es own) ∙ there) in
      grind (arith, nat_tests, passes)

  pub numbered-with_item : (key : ℕ) (item : T) (es : List (ℕ × T)) → number item ≡ key → AreNumbered number es → AreNumbered number (with_item key es item)
  numbered-with_item key item [] is own = tt
  numbered-with_item key item (e ∷ es) is own = by (e.0 == key) refl (numbered-with_item key item es is own.1)
    where
      by : (b : Bool) → (e.0 == key) ≡ b → AreNumbered number (with_item key es item) → AreNumbered number (with_item key (e ∷ es) item)
      by true same rest = let at : e.0 ≡ key = grind (arith, nat_tests, same) in rw same (at ∙ sym is, rest)
      by false same rest = rw same (own.0, rest)
