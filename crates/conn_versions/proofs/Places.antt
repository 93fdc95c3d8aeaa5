-- The place of what a search finds.
use Rattle.std.proofs.Common.{◌≡◌, ℕ, zero, suc, ◌<◌, Bool, true, false, List, [], ◌∷◌, length, get_or, map, Option, Some, None, Result, Ok, Err, refl, sym, ap, ◌∙◌, subst, inl, inr, arith}
use Rattle.std.specs.Prelude.{nat_lt, option_map, position, slice_get, if◌then◌else◌}
use Rattle.std.specs.List.Sorted.{IsBinarySearchResult, IsNonDecreasingBy, IsPartitionPoint, IsSearchInRange}
use Rattle.std.specs.Ordering.{nat_cmp, ordering_index}
use Rattle.std.specs.declared.cmp.Ordering.TheVariants.{Less, Equal, Greater}
use Rattle.std.specs.Result.{result_ok}
use Rattle.std.proofs.lemmas.Bool.{cases_lt, eq-eqb, false≢true}
use Rattle.std.proofs.lemmas.Bool.Decides.{nat_tests}
use Rattle.std.proofs.lemmas.Cmp.{ranked}
use Rattle.std.proofs.lemmas.List.Sums.{position_or_len_is}
use Rattle.std.proofs.lemmas.Option.{get_or_from_slice_get, slice_get-get_or, slice_get-map, slice_get_within}
use Rattle.list_core.proofs.Items.{found, one_item, within}
use Rattle.plan_types.specs.declared.plan.Backend.{Backend}
use Rattle.plan_types.specs.declared.plan.Plan.{Plan}
use Rattle.plan_types.specs.Lines.{has_line}
use Rattle.plan_types.specs.Sound.{IsSoundPlan, NamesDiffer}
use Rattle.conn_model.specs.declared.plain.Version.{Version}
use Rattle.conn_model.specs.Words.{Rise}
use Rattle.conn_model.proofs.Lists.{all-at}
use Rattle.conn_versions.specs.Versions.{has_number}

-- the first item that passes
pub position-first : {X : Type 0} (p : X → Bool) (xs : List X) (n : ℕ) (x : X) → slice_get xs n ≡ Some x → p x ≡ true →
    ((m : ℕ) (y : X) → m < n → slice_get xs m ≡ Some y → p y ≡ false) → position p xs ≡ Some n
position-first p xs n x there passes fails =
    let less : n < length xs = slice_get_within xs n x there in
    let at : get_or xs n x ≡ x = get_or_from_slice_get xs n x x there in
    let first = position_or_len_is p xs n x (omega (arith, less))
    (λ m before. fails m (get_or xs m x) before (slice_get-get_or xs m x (omega (arith, less, before)))) (λ _. ap p at ∙ passes) in
    let below : nat_lt n (length xs) ≡ true = grind (arith, nat_tests, less) in
    ap (λ m. if nat_lt m (length xs) then Some m else None) first ∙ rw below refl

-- none passes
position-none : {X : Type 0} (p : X → Bool) (xs : List X) → ((m : ℕ) (y : X) → slice_get xs m ≡ Some y → p y ≡ false) → position p xs ≡ None
position-none p xs fails = by (position p xs) refl
  where
    by : (o : Option ℕ) → position p xs ≡ o → o ≡ None
    by None is = refl
    by (Some m) is = let at = found p xs m is in absurd (false≢true (sym (fails m at.0 at.1) ∙ at.2))

-- Backends.

-- two places with one name are one
names_apart : (names : List (List ℕ)) → NamesDiffer names → (i j : ℕ) (name : List ℕ) → i < j →
    slice_get names i ≡ Some name → slice_get names j ≡ Some name → ⊥
names_apart [] differ i j name less left right = let wrong : None ≡ Some name = left in cc
names_apart (x ∷ names) differ i zero name less left right = omega (arith, less)
names_apart (x ∷ names) differ zero (suc j) name less left right =
    all-at (λ other. other ≡ x → ⊥) names j name differ.0 right (sym (one_item (Some x) x name refl left))
names_apart (x ∷ names) differ (suc i) (suc j) name less left right = names_apart names differ.1 i j name (omega (arith, less)) left right

-- a backend with a server of a line is the first that has one
pub line_place : (plan : Plan) → IsSoundPlan plan → (line place : ℕ) (backend : Backend) →
    slice_get plan.backends place ≡ Some backend → has_line line backend ≡ true → position (has_line line) plan.backends ≡ Some place
line_place plan sound line place backend there has =
    position-first (has_line line) plan.backends place backend there has (λ m other before at. by m other before at (has_line line other) refl)
  where
    name_at : (n : ℕ) (b : Backend) → slice_get plan.backends n ≡ Some b → slice_get (map (λ backend. backend.name) plan.backends) n ≡ Some b.name
    name_at n b at = slice_get-map (λ backend. backend.name) plan.backends n ∙ ap (λ o. option_map (λ backend. backend.name) o) at

    by : (m : ℕ) (other : Backend) → m < place → slice_get plan.backends m ≡ Some other → (b : Bool) → has_line line other ≡ b → b ≡ false
    by m other before at false is = refl
    by m other before at true is =
        let same : other ≡ backend = sound.lines line m place other backend at there is has in
        absurd (names_apart (map (λ backend. backend.name) plan.backends) sound.backend_names m place other.name before
        (name_at m other at) (name_at place backend there ∙ ap (λ b. Some b.name) (sym same)))

-- Versions.

-- numbers rise by place
pub rise-at : {X : Type 0} (number : X → ℕ) (xs : List X) → Rise number xs → (i j : ℕ) (x y : X) → i < j →
    slice_get xs i ≡ Some x → slice_get xs j ≡ Some y → number x < number y
rise-at number [] rise i j x y less left right = absurd (let wrong : None ≡ Some x = left in cc)
rise-at number (z ∷ xs) rise i zero x y less left right = absurd (omega (arith, less))
rise-at number (z ∷ xs) rise zero (suc j) x y less left right =
    let first : z ≡ x = one_item (Some z) z x refl left in
    subst (λ w. number w < number y) first (all-at (λ other. number z < number other) xs j y rise.0 right)
rise-at number (z ∷ xs) rise (suc i) (suc j) x y less left right = rise-at number xs rise.1 i j x y (omega (arith, less)) left right

-- a version of a number is the first that has it
pub number_place : (number : ℕ) (versions : List Version) → Rise (λ v. v.number) versions → (place : ℕ) (version : Version) →
    slice_get versions place ≡ Some version → version.number ≡ number → position (has_number number) versions ≡ Some place
number_place number versions rise place version there is =
    position-first (has_number number) versions place version there (eq-eqb version.number number is) (λ m other before at.
    let less : other.number < version.number = rise-at (λ v. v.number) versions rise m place other version before at there in
    grind (arith, nat_tests, less, is))

-- how numbers compare with one rises along the versions
comparisons_rise : (number : ℕ) (versions : List Version) → Rise (λ v. v.number) versions →
    IsNonDecreasingBy (λ v. ordering_index (nat_cmp v.number number)) versions
comparisons_rise number versions rise i j d from within = elim (cases_lt i j) [
  | inl less ↦
      let below : (get_or versions i d).number < (get_or versions j d).number =
      rise-at (λ v. v.number) versions rise i j (get_or versions i d) (get_or versions j d) less
      (slice_get-get_or versions i d (omega (arith, less, within))) (slice_get-get_or versions j d within) in
      grind (arith, nat_tests, below)
  | inr least ↦
      let same : i ≡ j = omega (arith, least, from) in
      rw same (omega arith)
]

-- a binary search ends at the version of the number, or there is none
pub searched : (number : ℕ) (versions : List Version) → Rise (λ v. v.number) versions → (result : Result ℕ ℕ) →
    IsSearchInRange result (length versions) → IsBinarySearchResult (λ v. nat_cmp v.number number) versions result →
    result_ok result ≡ position (has_number number) versions
searched number versions rise (Ok place) inside equal =
    let there = within versions place inside in
    let same : get_or versions place there.0 ≡ there.0 = get_or_from_slice_get versions place there.0 there.0 there.1 in
    let is : there.0.number ≡ number = ranked there.0.number number Equal (sym (equal there.0) ∙ ap (λ v. nat_cmp v.number number) same) in
    sym (number_place number versions rise place there.0 there.1 is)
searched number versions rise (Err place) within parted = sym (position-none (has_number number) versions differ)
  where
    point : IsPartitionPoint (λ v. nat_cmp v.number number ≡ Less) (λ v. nat_cmp v.number number ≡ Greater) versions place
    point = parted (comparisons_rise number versions rise)

    differ : (m : ℕ) (version : Version) → slice_get versions m ≡ Some version → has_number number version ≡ false
    differ m version at = elim (cases_lt m place) [
      | inl before ↦
          let less : version.number < number = ranked version.number number Less (sym (point.0 m version (omega arith) before) ∙ ap (λ v. nat_cmp v.number number) same) in
          grind (arith, nat_tests, less)
      | inr after ↦
          let more : number < version.number = ranked version.number number Greater (sym (point.1 m version after (slice_get_within versions m version at)) ∙ ap (λ v. nat_cmp v.number number) same) in
          grind (arith, nat_tests, more)
    ]
      where
        same : get_or versions m version ≡ version
        same = get_or_from_slice_get versions m version version at
