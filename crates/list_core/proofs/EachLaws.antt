-- What a list read item by item is, and which fault stands for it.
use Rattle.std.proofs.Common.{◌≡◌, ℕ, zero, suc, ◌+◌, drop, List, [], ◌∷◌, ◌++◌, take, Some, Result, Ok, Err, refl, sym, ap, ◌∙◌, append_assoc}
use Rattle.std.specs.Prelude.{slice_get}
use Rattle.std.proofs.lemmas.List.{append-nil}
use Rattle.list_core.specs.Each.{◌>>=◌, each, IsReadAfter}

abbrev ReadsAt : {A B F : Type 0} → (List B → A → Result B F) → List B → List A → List B → Type 0
ReadsAt {A} {B} judged done xs ys = (i : ℕ) (a : A) (b : B) → slice_get xs i ≡ Some a → slice_get ys i ≡ Some b → judged (done ++ take i ys) a ≡ Ok b

-- one more at the front
front : {A B F : Type 0} (judged : List B → A → Result B F) (done : List B) (x : A) (y : B) (xs : List A) (ys : List B) → judged done x ≡ Ok y
    → ReadsAt judged (done ++ y ∷ []) xs ys → ReadsAt judged done (x ∷ xs) (y ∷ ys)
front judged done x y xs ys is more zero a b ga gb =
    let same_x : x ≡ a = cc in
    let same_y : y ≡ b = cc in
    ap (λ d. judged d a) (append-nil done) ∙ ap (λ x. judged done x) (sym same_x) ∙ is ∙ ap (λ y. Ok y) same_y
front judged done x y xs ys is more (suc i) a b ga gb =
    ap (λ d. judged d a) (sym (append_assoc done (y ∷ []) (take i ys))) ∙ more i a b ga gb

pub each_ok : {A B F : Type 0} (judged : List B → A → Result B F) (done : List B) (xs : List A) (out : List B) → each judged done xs ≡ Ok out
    → (ys : List B) × (out ≡ done ++ ys) × IsReadAfter judged done xs ys
each_ok judged done [] out e =
    let same : out ≡ done = cc in
    ([], same ∙ sym (append-nil done), (refl, λ i a b ga gb. absurd cc))
each_ok {A} {B} {F} judged done (x ∷ xs) out e = by (λ y. each_ok judged (done ++ y ∷ []) xs out) (judged done x) refl
  where
    by : ((y : B) → each judged (done ++ y ∷ []) xs ≡ Ok out → (ys : List B) × (out ≡ (done ++ y ∷ []) ++ ys) × IsReadAfter judged (done ++ y ∷ []) xs ys)
        → (r : Result B F) → judged done x ≡ r → (ys : List B) × (out ≡ done ++ ys) × IsReadAfter judged done (x ∷ xs) ys
    by later (Err f) is =
        let wrong : Err f ≡ Ok out = ap (λ r. r >>= λ b. each judged (done ++ b ∷ []) xs) (sym is) ∙ e in absurd cc
    by later (Ok y) is =
        let rest : each judged (done ++ y ∷ []) xs ≡ Ok out = ap (λ r. r >>= λ b. each judged (done ++ b ∷ []) xs) (sym is) ∙ e in
        let more = later y rest in (
          y ∷ more.0,
          more.1 ∙ append_assoc done (y ∷ []) more.0,
          (ap (λ n. suc n) more.2.0, front judged done x y xs more.0 is more.2.1),
        )

pub each_err : {A B F : Type 0} (judged : List B → A → Result B F) (done : List B) (xs : List A) (f : F) → each judged done xs ≡ Err f
    → (i : ℕ) × (a : A) × (ys : List B) × (slice_get xs i ≡ Some a) × IsReadAfter judged done (take i xs) ys × (judged (done ++ ys) a ≡ Err f)
each_err judged done [] f e = absurd cc
each_err {A} {B} {F} judged done (x ∷ xs) f e = by (λ y. each_err judged (done ++ y ∷ []) xs f) (judged done x) refl
  where
    by : ((y : B) → each judged (done ++ y ∷ []) xs ≡ Err f
        → (i : ℕ) × (a : A) × (ys : List B) × (slice_get xs i ≡ Some a) × IsReadAfter judged (done ++ y ∷ []) (take i xs) ys × (judged ((done ++ y ∷ []) ++ ys) a ≡ Err f))
        → (r : Result B F) → judged done x ≡ r
        → (i : ℕ) × (a : A) × (ys : List B) × (slice_get (x ∷ xs) i ≡ Some a) × IsReadAfter judged done (take i (x ∷ xs)) ys × (judged (done ++ ys) a ≡ Err f)
    by later (Err g) is =
        let same : Err g ≡ Err f = ap (λ r. r >>= λ b. each judged (done ++ b ∷ []) xs) (sym is) ∙ e in
        let f_is : g ≡ f = cc in
        (0, x, [], refl, (refl, λ i a b ga gb. absurd cc), ap (λ d. judged d x) (append-nil done) ∙ is ∙ ap (λ g. Err g) f_is)
    by later (Ok y) is =
        let rest : each judged (done ++ y ∷ []) xs ≡ Err f = ap (λ r. r >>= λ b. each judged (done ++ b ∷ []) xs) (sym is) ∙ e in
        let more = later y rest in (
          suc more.0,
          more.1,
          y ∷ more.2,
          more.3,
          (ap (λ n. suc n) more.4.0, front judged done x y (take more.0 xs) more.2 is more.4.1),
          ap (λ d. judged d more.1) (sym (append_assoc done (y ∷ []) more.2)) ∙ more.5,
        )

-- one item more
pub each_more : {A B F : Type 0} (judged : List B → A → Result B F) (done : List B) (xs : List A) (i : ℕ) (a : A) (b : B) → drop i xs ≡ a ∷ drop (i + 1) xs → judged done a ≡ Ok b
    → each judged (done ++ b ∷ []) (drop (i + 1) xs) ≡ each judged done (drop i xs)
each_more judged done xs i a b there is =
    sym (ap (λ ys. each judged done ys) there ∙ ap (λ r. r >>= λ b. each judged (done ++ b ∷ []) (drop (i + 1) xs)) is)
