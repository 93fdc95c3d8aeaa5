-- Names, each once.
use Rattle.std.proofs.Common.{◌≡◌, ℕ, Bool, true, false, not, List, [], ◌∷◌, ◌++◌, refl, sym, ap, ◌∙◌}
use Rattle.std.specs.Prelude.{◌&&◌, ◌||◌, if◌then◌else◌}
use Rattle.std.specs.List.{list_any, filter}
use Rattle.std.specs.Str.{bytes_eq}
use Rattle.std.proofs.lemmas.Bool.Decides.{same_from_decides, Decides-like}
use Rattle.std.proofs.lemmas.List.{append-nil}
use Rattle.std.proofs.lemmas.List.Elements.{filter-append}
use Rattle.std.proofs.lemmas.Slice.Eq.{bytes_eq-Decides}
use Rattle.std.proofs.lemmas.Map.Views.{any-filter_same}
use Rattle.text_core.specs.Names.{distinct}

bytes_eq-swapped : (xs ys : List ℕ) → bytes_eq ys xs ≡ bytes_eq xs ys
bytes_eq-swapped xs ys = same_from_decides (bytes_eq ys xs) (bytes_eq xs ys) (bytes_eq-Decides ys xs) (Decides-like (bytes_eq xs ys) (λ e. sym e) (λ e. sym e) (bytes_eq-Decides xs ys))

-- of the names other than y, one is this name where it is not y
found : (y name : List ℕ) (names : List (List ℕ)) →
    list_any (λ other. bytes_eq other name) (filter (λ other. not (bytes_eq other y)) names) ≡ (not (bytes_eq y name) && list_any (λ other. bytes_eq other name) names)
found y name names =
    any-filter_same (λ other. bytes_eq other name) (λ other. not (bytes_eq other y)) (not (bytes_eq y name))
    (λ other same. ap (λ x. not (bytes_eq x y)) ((bytes_eq-Decides other name).0 same) ∙ ap not (bytes_eq-swapped y name)) names

step : (y name : List ℕ) (names : List (List ℕ)) (b m : Bool) → bytes_eq y name ≡ b → list_any (λ other. bytes_eq other name) names ≡ m →
    y ∷ filter (λ other. not (bytes_eq other y)) (if m then names else names ++ name ∷ [])
    ≡ (if b || (not b && m) then y ∷ filter (λ other. not (bytes_eq other y)) names else (y ∷ filter (λ other. not (bytes_eq other y)) names) ++ name ∷ [])
step y name names true true same there = refl
step y name names true false same there =
    rw (filter-append (λ other. not (bytes_eq other y)) names (name ∷ []), bytes_eq-swapped y name, same, append-nil (filter (λ other. not (bytes_eq other y)) names)) refl
step y name names false true same there = refl
step y name names false false same there =
    rw (filter-append (λ other. not (bytes_eq other y)) names (name ∷ []), bytes_eq-swapped y name, same) refl

-- one more name
pub distinct-more : (names : List (List ℕ)) (name : List ℕ) →
    distinct (names ++ name ∷ []) ≡ (if list_any (λ other. bytes_eq other name) (distinct names) then distinct names else distinct names ++ name ∷ [])
distinct-more [] name = refl
distinct-more (y ∷ names) name =
    rw (distinct-more names name, found y name (distinct names))
    (step y name (distinct names) (bytes_eq y name) (list_any (λ other. bytes_eq other name) (distinct names)) refl refl)
