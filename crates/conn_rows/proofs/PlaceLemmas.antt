-- The one element that passes a test is what is found.
use Rattle.std.proofs.Common.{◌≡◌, ℕ, zero, suc, Bool, true, false, List, [], ◌∷◌, map, Some, refl, sym, ap, ◌∙◌}
use Rattle.std.specs.Prelude.{slice_get, find, option_map}
use Rattle.std.specs.Str.{bytes_eq}
use Rattle.std.proofs.lemmas.Option.{slice_get-map}
use Rattle.std.proofs.lemmas.Slice.Eq.{bytes_eq-Decides}
use Rattle.plan_types.specs.declared.plan.Frontend.{Frontend}
use Rattle.plan_types.specs.Sound.{NamesDiffer}
use Rattle.conn_model.proofs.Lists.{all-at}

pub find-only : {X : Type 0} (p : X → Bool) (xs : List X) (i : ℕ) (x : X) → slice_get xs i ≡ Some x → p x ≡ true →
    ((j : ℕ) (y : X) → slice_get xs j ≡ Some y → p y ≡ true → y ≡ x) → find p xs ≡ Some x
find-only p [] i x there passes only = absurd (cc)
find-only p (y ∷ ys) zero x there passes only =
    let same : y ≡ x = cc in
    let here : p y ≡ true = ap p same ∙ passes in
    rw here (ap (λ x. Some x) same)
find-only p (y ∷ ys) (suc n) x there passes only = by (p y) refl (λ _. find-only p ys n x there passes (λ j z at z_passes. only (suc j) z at z_passes))
  where
    by : (b : Bool) → p y ≡ b → (p y ≡ false → find p ys ≡ Some x) → find p (y ∷ ys) ≡ Some x
    by true is rest = rw is (ap (λ x. Some x) (only zero y refl is))
    by false is rest = rw is (rest is)

-- where names differ, a frontend is found by its name
pub find-named : (name : List ℕ) (frontends : List Frontend) → NamesDiffer (map (λ frontend. frontend.name) frontends) → (i : ℕ) (x : Frontend) →
    slice_get frontends i ≡ Some x → bytes_eq x.name name ≡ true → find (λ frontend. bytes_eq frontend.name name) frontends ≡ Some x
find-named name [] differ i x there is = absurd (cc)
find-named name (y ∷ ys) differ zero x there is =
    let same : y ≡ x = cc in
    let here : bytes_eq y.name name ≡ true = ap (λ frontend. bytes_eq frontend.name name) same ∙ is in
    rw here (ap (λ x. Some x) same)
find-named name (y ∷ ys) differ (suc n) x there is = by (bytes_eq y.name name) refl (find-named name ys differ.1 n x there is)
  where
    name_there : slice_get (map (λ frontend. frontend.name) ys) n ≡ Some x.name
    name_there = slice_get-map (λ frontend. frontend.name) ys n ∙ ap (option_map (λ frontend. frontend.name)) there

    other : x.name ≡ y.name → ⊥
    other = all-at (λ other. other ≡ y.name → ⊥) (map (λ frontend. frontend.name) ys) n x.name differ.0 name_there

    by : (b : Bool) → bytes_eq y.name name ≡ b → find (λ frontend. bytes_eq frontend.name name) ys ≡ Some x → find (λ frontend. bytes_eq frontend.name name) (y ∷ ys) ≡ Some x
    by true here later = absurd (other ((bytes_eq-Decides x.name name).0 is ∙ sym ((bytes_eq-Decides y.name name).0 here)))
    by false here later = rw here later
