-- Lists that are searched and changed.
use Rattle.std.specs.Prelude.{ℕ, zero, suc, Bool, true, false, not, List, [], find, slice_get, slice_set, Some, None, option_map, refl, ◌≡◌, ◌≢◌, ◌&&◌, ◌||◌, ◌∷◌}
use Rattle.std.specs.List.{list_any, list_all, AllByRecursion}
use Rattle.std.proofs.Common.{sym, ap, ◌∙◌}
use Rattle.std.proofs.lemmas.Bool.{false≢true}

pub contrary : {A : Type 0} (b : Bool) → b ≡ true → b ≡ false → A
contrary b is no' = absurd (false≢true (sym no' ∙ is))

pub both : (a b : Bool) → (a && b) ≡ true → (a ≡ true) × (b ≡ true)
both true b e = (refl, e)
both false b e = contrary false e refl

pub of_not : (b : Bool) → not b ≡ true → b ≡ false
of_not true e = contrary false e refl
of_not false e = refl

pub nothing : {A X : Type 0} {x : X} → None ≡ Some x → A
nothing {A} {X} {x} e = absurd (let wrong : None ≡ Some x = e in cc)

pub some_same : {X : Type 0} {a b : X} → Some a ≡ Some b → a ≡ b
some_same e = cc

-- the item that passes is one of those of which P holds
pub any-of : {X : Type 0} (P : X → Type 0) (test : X → Bool) (xs : List X) → AllByRecursion P xs → list_any test xs ≡ true → (x : X) × P x × (test x ≡ true)
any-of P test [] all is = contrary false is refl
any-of {X} P test (x ∷ xs) all is = by (test x) refl (any-of P test xs all.1)
  where
    by : (b : Bool) → test x ≡ b → (list_any test xs ≡ true → (y : X) × P y × (test y ≡ true)) → (y : X) × P y × (test y ≡ true)
    by true e rest = (x, all.0, e)
    by false e rest = rest (rw e at is)

pub slice_get-set : {X : Type 0} (xs : List X) (n : ℕ) (x : X) → slice_get (slice_set xs n x) n ≡ option_map (λ y. x) (slice_get xs n)
slice_get-set [] n x = refl
slice_get-set (y ∷ xs) zero x = refl
slice_get-set (y ∷ xs) (suc n) x = slice_get-set xs n x

pub slice_get-other : {X : Type 0} (xs : List X) (n m : ℕ) (x : X) → m ≢ n → slice_get (slice_set xs n x) m ≡ slice_get xs m
slice_get-other [] n m x other = refl
slice_get-other (y ∷ xs) zero zero x other = absurd (other refl)
slice_get-other (y ∷ xs) zero (suc m) x other = refl
slice_get-other (y ∷ xs) (suc n) zero x other = refl
slice_get-other (y ∷ xs) (suc n) (suc m) x other = slice_get-other xs n m x (λ same. other (ap suc same))

pub find-any : {X : Type 0} (test other : X → Bool) (xs : List X) (x : X) → find test xs ≡ Some x → other x ≡ true → list_any other xs ≡ true
find-any test other [] x there is = nothing there
find-any {X} test other (y ∷ xs) x there is = by (test y) refl (find-any test other xs x)
  where
    or_true : (b : Bool) → (b || true) ≡ true
    or_true true = refl
    or_true false = refl

    by : (b : Bool) → test y ≡ b → (find test xs ≡ Some x → other x ≡ true → list_any other xs ≡ true) → list_any other (y ∷ xs) ≡ true
    by true e rest = let same : y ≡ x = some_same (rw e at there) in rw (ap other same ∙ is) refl
    by false e rest = rw (rest (rw e at there) is) (or_true (other y))

-- an item that is found among those that all pass
pub find-passes_all : {X : Type 0} (passes test : X → Bool) (xs : List X) (x : X) → list_all passes xs ≡ true → find test xs ≡ Some x → (passes x ≡ true) × (test x ≡ true)
find-passes_all passes test [] x all there = nothing there
find-passes_all {X} passes test (y ∷ xs) x all there =
    let parts = both (passes y) (list_all passes xs) all in
    by (test y) refl parts.0 (find-passes_all passes test xs x parts.1)
  where
    by : (b : Bool) → test y ≡ b → passes y ≡ true → (find test xs ≡ Some x → (passes x ≡ true) × (test x ≡ true)) → (passes x ≡ true) × (test x ≡ true)
    by true e own rest = let same : y ≡ x = some_same (rw e at there) in (ap passes (sym same) ∙ own, ap test (sym same) ∙ e)
    by false e own rest = rest (rw e at there)
