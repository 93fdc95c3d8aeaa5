-- What a map of boxes does, in words on the entries of its places and of those after them.
use Rattle.std.proofs.Common.{◌≡◌, ℕ, ◌+◌, ◌<◌, Bool, true, false, cond, List, [], ◌∷◌, ◌++◌, length, Option, Some, None, refl, sym, ap, ◌∙◌, subst, append-nil, append_assoc, arith}
use Rattle.std.specs.Prelude.{◌==◌, nat_lt}
use Rattle.std.specs.List.{AllByRecursion}
use Rattle.std.specs.Option.{option_map}
use Rattle.std.specs.Map.{lookup, remove_entry, set_value}
use Rattle.std.specs.BTreeMap.{is_at, insert_entry}
use Rattle.std.specs.Ordering.{nat_cmp, is_eq}
use Rattle.std.proofs.lemmas.Bool.Decides.{nat_tests}
use Rattle.std.proofs.lemmas.List.{length-map}
use Rattle.keyed_list.specs.Boxes.{entries_in, opened_by, settled}
use Rattle.keyed_list.specs.Entries.{Rise, total, item_at, without, with_item}
use Rattle.keyed_list.proofs.EntryLemmas.{rise-front, with_item-above}
use Rattle.keyed_list.proofs.PlaceLemmas.{above-differ, all-entries, no_item, none_changed, none_left_out, opened-all, total-ones}

-- What a comparison of keys says.

compare_same : (key k : ℕ) → (k == key) ≡ true → is_eq (nat_cmp key k) ≡ true
compare_same key k is =
    let not_below : nat_lt key k ≡ false = grind (arith, nat_tests) in
    let same : (key == k) ≡ true = grind (arith, nat_tests) in
    rw (not_below, same) refl

compare_other : (key k : ℕ) → (k == key) ≡ false → is_eq (nat_cmp key k) ≡ false
compare_other key k is = by (nat_lt key k) refl
  where
    by : (b : Bool) → nat_lt key k ≡ b → is_eq (nat_cmp key k) ≡ false
    by true below = rw below refl
    by false below = let differ : (key == k) ≡ false = grind (arith, nat_tests, is) in rw (below, differ) refl

compare_above : (key k : ℕ) → k < key → (nat_lt key k ≡ false) × ((key == k) ≡ false)
compare_above key k less = (grind (arith, nat_tests), grind (arith, nat_tests))

-- The places of the entries of a tree.

module _ {B : Type 0} where
  pub settled-append : (t u : List (ℕ × B)) → settled (t ++ u) ≡ settled t ++ settled u
  settled-append [] u = refl
  settled-append (e ∷ t) u = ap (λ ps. (e.0, Some e.1) ∷ ps) (settled-append t u)

  -- without the last of its entries, and nothing after it
  pub rise_popped : (t u : List (ℕ × B)) (ps qs : List (ℕ × Option B)) → qs ≡ [] → Rise (λ p. p.0) (settled (t ++ u) ++ ps) → Rise (λ p. p.0) (settled t ++ qs)
  rise_popped t u ps qs none rise =
      subst (λ qs. Rise (λ p. p.0) (settled t ++ qs)) (sym none) (subst (λ qs. Rise (λ p. p.0) qs) (sym (append-nil (settled t)))
      (rise-front (λ p. p.0) (settled t) (settled u) (subst (λ qs. Rise (λ p. p.0) qs) (settled-append t u) (rise-front (λ p. p.0) (settled (t ++ u)) ps rise))))

  far_all_left : (P : ℕ → Type 0) (test : ℕ → Bool) (t : List (ℕ × B)) (ps : List (ℕ × Option B)) → AllByRecursion (λ p. P p.0) (settled t ++ ps) → AllByRecursion (λ p. P p.0) (settled (remove_entry test t) ++ ps)
  far_all_left P test [] ps all = all
  far_all_left P test (e ∷ t) ps all = by (test e.0) (far_all_left P test t ps all.1)
    where
      by : (b : Bool) → AllByRecursion (λ p. P p.0) (settled (remove_entry test t) ++ ps) → AllByRecursion (λ p. P p.0) (settled (cond b t (e ∷ remove_entry test t)) ++ ps)
      by true rest = all.1
      by false rest = (all.0, rest)

  pub far_rise_left : (test : ℕ → Bool) (t : List (ℕ × B)) (ps : List (ℕ × Option B)) → Rise (λ p. p.0) (settled t ++ ps) → Rise (λ p. p.0) (settled (remove_entry test t) ++ ps)
  far_rise_left test [] ps rise = rise
  far_rise_left test (e ∷ t) ps rise = by (test e.0) (far_rise_left test t ps rise.1)
    where
      by : (b : Bool) → Rise (λ p. p.0) (settled (remove_entry test t) ++ ps) → Rise (λ p. p.0) (settled (cond b t (e ∷ remove_entry test t)) ++ ps)
      by true rest = rise.1
      by false rest = (far_all_left (λ k. e.0 < k) test t ps rise.0, rest)

  far_all_put : (P : ℕ → Type 0) (test : ℕ → Bool) (own : B) (t : List (ℕ × B)) (ps : List (ℕ × Option B)) → AllByRecursion (λ p. P p.0) (settled t ++ ps) → AllByRecursion (λ p. P p.0) (settled (set_value test t own) ++ ps)
  far_all_put P test own [] ps all = all
  far_all_put P test own (e ∷ t) ps all = by (test e.0) (far_all_put P test own t ps all.1)
    where
      by : (b : Bool) → AllByRecursion (λ p. P p.0) (settled (set_value test t own) ++ ps) → AllByRecursion (λ p. P p.0) (settled (cond b ((e.0, own) ∷ t) (e ∷ set_value test t own)) ++ ps)
      by true rest = all
      by false rest = (all.0, rest)

  pub far_rise_put : (test : ℕ → Bool) (own : B) (t : List (ℕ × B)) (ps : List (ℕ × Option B)) → Rise (λ p. p.0) (settled t ++ ps) → Rise (λ p. p.0) (settled (set_value test t own) ++ ps)
  far_rise_put test own [] ps rise = rise
  far_rise_put test own (e ∷ t) ps rise = by (test e.0) (far_rise_put test own t ps rise.1)
    where
      by : (b : Bool) → Rise (λ p. p.0) (settled (set_value test t own) ++ ps) → Rise (λ p. p.0) (settled (cond b ((e.0, own) ∷ t) (e ∷ set_value test t own)) ++ ps)
      by true rest = rise
      by false rest = (far_all_put (λ k. e.0 < k) test own t ps rise.0, rest)

  -- one more, above all others
  pub inserted : (key : ℕ) (own : B) (t : List (ℕ × B)) → AllByRecursion (λ p. p.0 < key) (settled t) → settled (insert_entry nat_cmp t key own) ≡ settled t ++ (key, Some own) ∷ []
  inserted key own [] below = refl
  inserted key own (e ∷ t) below =
      let above = compare_above key e.0 below.0 in
      let not_below = above.0 in
      let differ = above.1 in
      rw (not_below, differ) (ap (λ ps. (e.0, Some e.1) ∷ ps) (inserted key own t below.1))

  -- the next place after a tree moves into it
  pub settled_to_next : (t u : List (ℕ × B)) (ps : List (ℕ × Option B)) (key : ℕ) (own : B) → AllByRecursion (λ p. p.0 < key) (settled t) → u ≡ insert_entry nat_cmp t key own → settled u ++ ps ≡ settled t ++ (key, Some own) ∷ ps
  settled_to_next t u ps key own below is =
      ap (λ t. settled t ++ ps) is ∙ ap (λ qs. qs ++ ps) (inserted key own t below) ∙ append_assoc (settled t) ((key, Some own) ∷ []) ps

  pub not_there : (key : ℕ) (t : List (ℕ × B)) → AllByRecursion (λ p. p.0 < key) (settled t) → lookup (is_at (nat_cmp key)) t ≡ None
  not_there key [] below = refl
  not_there key (e ∷ t) below =
      let above = compare_above key e.0 below.0 in
      let not_below = above.0 in
      let differ = above.1 in
      rw (not_below, differ) (not_there key t below.1)

-- The entries of a tree and of places after it, of which none has the key.

module _ {B T : Type 0} (value : B → T) (key : ℕ) where
  pub far_item : (t : List (ℕ × B)) (ps : List (ℕ × Option B)) → AllByRecursion (λ p. (p.0 == key) ≡ false) ps
      → option_map value (lookup (is_at (nat_cmp key)) t) ≡ item_at key (entries_in (opened_by value (settled t ++ ps)))
  far_item [] ps all = sym (no_item value key ps all)
  far_item (e ∷ t) ps all = by (e.0 == key) refl (far_item t ps all)
    where
      by : (b : Bool) → (e.0 == key) ≡ b → option_map value (lookup (is_at (nat_cmp key)) t) ≡ item_at key (entries_in (opened_by value (settled t ++ ps)))
          → option_map value (lookup (is_at (nat_cmp key)) (e ∷ t)) ≡ item_at key (entries_in (opened_by value (settled (e ∷ t) ++ ps)))
      by true is rest = let same = compare_same key e.0 is in rw (same, is) refl
      by false is rest = let other = compare_other key e.0 is in rw (other, is) rest

  pub far_left : (t : List (ℕ × B)) (ps : List (ℕ × Option B)) → Rise (λ p. p.0) (settled t ++ ps) → AllByRecursion (λ p. (p.0 == key) ≡ false) ps
      → entries_in (opened_by value (settled (remove_entry (is_at (nat_cmp key)) t) ++ ps)) ≡ without key (entries_in (opened_by value (settled t ++ ps)))
  far_left [] ps rise all = sym (none_left_out value key ps all)
  far_left (e ∷ t) ps rise all = by (e.0 == key) refl (far_left t ps rise.1 all)
    where
      by : (b : Bool) → (e.0 == key) ≡ b → entries_in (opened_by value (settled (remove_entry (is_at (nat_cmp key)) t) ++ ps)) ≡ without key (entries_in (opened_by value (settled t ++ ps)))
          → entries_in (opened_by value (settled (remove_entry (is_at (nat_cmp key)) (e ∷ t)) ++ ps)) ≡ without key (entries_in (opened_by value (settled (e ∷ t) ++ ps)))
      by true is rest = let same = compare_same key e.0 is in rw (same, is) (sym (none_left_out value key (settled t ++ ps) (above-differ key e.0 (settled t ++ ps) is rise.0)))
      by false is rest = let other = compare_other key e.0 is in rw (other, is) (ap (λ es. (e.0, value e.1) ∷ es) rest)

  pub far_put : (own : B) (t : List (ℕ × B)) (ps : List (ℕ × Option B)) → Rise (λ p. p.0) (settled t ++ ps) → AllByRecursion (λ p. (p.0 == key) ≡ false) ps
      → entries_in (opened_by value (settled (set_value (is_at (nat_cmp key)) t own) ++ ps)) ≡ with_item key (entries_in (opened_by value (settled t ++ ps))) (value own)
  far_put own [] ps rise all = sym (none_changed value key (value own) ps all)
  far_put own (e ∷ t) ps rise all = by (e.0 == key) refl (far_put own t ps rise.1 all)
    where
      by : (b : Bool) → (e.0 == key) ≡ b → entries_in (opened_by value (settled (set_value (is_at (nat_cmp key)) t own) ++ ps)) ≡ with_item key (entries_in (opened_by value (settled t ++ ps))) (value own)
          → entries_in (opened_by value (settled (set_value (is_at (nat_cmp key)) (e ∷ t) own) ++ ps)) ≡ with_item key (entries_in (opened_by value (settled (e ∷ t) ++ ps))) (value own)
      by true is rest =
          let same = compare_same key e.0 is in
          rw (same, is) (ap (λ es. (e.0, value own) ∷ es) (sym (with_item-above key (value own) e.0 (entries_in (opened_by value (settled t ++ ps))) is
          (all-entries (λ k. e.0 < k) (opened_by value (settled t ++ ps)) (opened-all value (λ k. e.0 < k) (settled t ++ ps) rise.0)))))
      by false is rest = let other = compare_other key e.0 is in rw (other, is) (ap (λ es. (e.0, value e.1) ∷ es) rest)

  pub far_same_count : (own : B) (t : List (ℕ × B)) (ps : List (ℕ × Option B)) → Rise (λ p. p.0) (settled t ++ ps) → AllByRecursion (λ p. (p.0 == key) ≡ false) ps
      → length (entries_in (opened_by value (settled (set_value (is_at (nat_cmp key)) t own) ++ ps))) ≡ length (entries_in (opened_by value (settled t ++ ps)))
  far_same_count own t ps rise all = ap length (far_put own t ps rise all) ∙ length-map (entries_in (opened_by value (settled t ++ ps))) _

  pub far_worth : (worth : ℕ × T → ℕ) (own : B) (t : List (ℕ × B)) (ps : List (ℕ × Option B)) → lookup (is_at (nat_cmp key)) t ≡ Some own
      → total worth (entries_in (opened_by value (settled (remove_entry (is_at (nat_cmp key)) t) ++ ps))) + worth (key, value own) ≡ total worth (entries_in (opened_by value (settled t ++ ps)))
  far_worth worth own [] ps found = absurd (cc)
  far_worth worth own (e ∷ t) ps found = by (e.0 == key) refl (far_worth worth own t ps)
    where
      by : (b : Bool) → (e.0 == key) ≡ b
          → (lookup (is_at (nat_cmp key)) t ≡ Some own → total worth (entries_in (opened_by value (settled (remove_entry (is_at (nat_cmp key)) t) ++ ps))) + worth (key, value own) ≡ total worth (entries_in (opened_by value (settled t ++ ps))))
          → total worth (entries_in (opened_by value (settled (remove_entry (is_at (nat_cmp key)) (e ∷ t)) ++ ps))) + worth (key, value own) ≡ total worth (entries_in (opened_by value (settled (e ∷ t) ++ ps)))
      by true is rest =
          let same = compare_same key e.0 is in
          let it : e.1 ≡ own = let one : Some e.1 ≡ Some own = rw same at found in cc in
          let at : e.0 ≡ key = grind (arith, nat_tests, is) in
          let weighs : worth (key, value own) ≡ worth (e.0, value e.1) = ap (λ k. worth (k, value own)) (sym at) ∙ ap (λ y. worth (e.0, value y)) (sym it) in
          rw same (omega (arith, weighs))
      by false is rest =
          let other = compare_other key e.0 is in
          let more = rest (rw other at found) in
          rw other (omega (arith, more))

  pub far_one_less : (own : B) (t : List (ℕ × B)) (ps : List (ℕ × Option B)) → lookup (is_at (nat_cmp key)) t ≡ Some own
      → length (entries_in (opened_by value (settled (remove_entry (is_at (nat_cmp key)) t) ++ ps))) + 1 ≡ length (entries_in (opened_by value (settled t ++ ps)))
  far_one_less own t ps found =
      ap (λ n. n + 1) (sym (total-ones (entries_in (opened_by value (settled (remove_entry (is_at (nat_cmp key)) t) ++ ps))))) ∙ far_worth (λ e. 1) own t ps found ∙ total-ones (entries_in (opened_by value (settled t ++ ps)))

module _ {B T : Type 0} (value : B → T) where
  pub length-settled : (t : List (ℕ × B)) (ps : List (ℕ × Option B)) → length (entries_in (opened_by value (settled t ++ ps))) ≡ length t + length (entries_in (opened_by value ps))
  length-settled [] ps = omega arith
  length-settled (e ∷ t) ps = let rest = length-settled t ps in omega (arith, rest)

  -- what holds of the keys of all entries
  pub far_below : (P : ℕ → Type 0) (t : List (ℕ × B)) (ps : List (ℕ × Option B)) → AllByRecursion (λ e. P e.0) (entries_in (opened_by value (settled t ++ ps)))
      → AllByRecursion (λ p. P p.0) (settled t) × AllByRecursion (λ e. P e.0) (entries_in (opened_by value ps))
  far_below P [] ps all = (tt, all)
  far_below P (e ∷ t) ps all = let rest = far_below P t ps all.1 in ((all.0, rest.0), rest.1)
