-- Reading a list item by item, each in the light of what was read before it.
use Rattle.std.specs.Prelude.{◌≡◌, ℕ, List, [], ◌∷◌, ◌++◌, length, take, slice_get, Some, Result, Ok, Err}
use Rattle.list_core.specs.declared.stop.Stop.{Stop}
use Rattle.list_core.specs.declared.stop.Stop.TheVariants as stops

infixl 10 ◌>>=◌
abbrev pub ◌>>=◌ : {A B F : Type 0} → Result A F → (A → Result B F) → Result B F
(Ok x) >>= f = f x
(Err e) >>= f = Err e

-- What a function returned is what reading gives, unless memory ran out.
abbrev pub Fails : {Y F : Type 0} → Stop F → Result Y F → Type 0
Fails stops.Memory read = Unit {0}
Fails (stops.Fault f) read = read ≡ Err f

abbrev pub Gives : {X F : Type 0} → Result X (Stop F) → Result X F → Type 0
Gives (Ok x) read = read ≡ Ok x
Gives (Err e) read = Fails e read

-- each item is judged in the light of what was read before it; the first fault stands for all
abbrev pub each : {A B F : Type 0} → (List B → A → Result B F) → List B → List A → Result (List B) F
each judged done [] = Ok done
each judged done (a ∷ rest) = judged done a >>= λ b. each judged (done ++ b ∷ []) rest

-- a state moved on by each item in turn; the first fault stands for all
abbrev pub run : {S A F : Type 0} → (S → A → Result S F) → S → List A → Result S F
run step s [] = Ok s
run step s (a ∷ rest) = step s a >>= λ t. run step t rest

-- each of ys is what judged says of its x in the light of those of ys before it
abbrev pub IsReadAfter : {A B F : Type 0} → (List B → A → Result B F) → List B → List A → List B → Type 0
IsReadAfter {A} {B} judged done xs ys =
    (length ys ≡ length xs) × ((i : ℕ) (a : A) (b : B) → slice_get xs i ≡ Some a → slice_get ys i ≡ Some b → judged (done ++ take i ys) a ≡ Ok b)

abbrev pub IsRead : {A B F : Type 0} → (List B → A → Result B F) → List A → List B → Type 0
IsRead judged xs ys = IsReadAfter judged [] xs ys

-- f is the fault of the first of xs that has one
abbrev pub IsFirstFault : {A B F : Type 0} → (List B → A → Result B F) → List A → F → Type 0
IsFirstFault {A} {B} judged xs f =
    (i : ℕ) × (a : A) × (ys : List B) × (slice_get xs i ≡ Some a) × IsRead judged (take i xs) ys × (judged ys a ≡ Err f)
