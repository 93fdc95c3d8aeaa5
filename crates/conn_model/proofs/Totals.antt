-- Totals over lists.
use Rattle.std.proofs.Common.{◌≡◌, ℕ, zero, suc, set, Option, Some, None, ◌+◌, ◌<◌, ◌≤◌, List, [], ◌∷◌, ◌++◌, length, take, get_or, map, refl, sym, ap, ◌∙◌, arith}
use Rattle.std.specs.Option.{MatchOption}
use Rattle.std.specs.Prelude.{slice_get, IfSome, IfNone, option_to_list}
use Rattle.std.specs.List.{remove}
use Rattle.std.proofs.lemmas.List.{take_all, take_more}
use Rattle.conn_model.specs.Counts.{total}

pub total-push : {X : Type 0} (worth : X → ℕ) (xs : List X) (x : X) → total worth (xs ++ x ∷ []) ≡ total worth xs + worth x
total-push worth [] x = omega arith
total-push worth (y ∷ xs) x = let more = total-push worth xs x in omega (arith, more)

-- one item less
pub total-remove : {X : Type 0} (worth : X → ℕ) (xs : List X) (n : ℕ) (x : X) → slice_get xs n ≡ Some x → total worth (remove xs n) + worth x ≡ total worth xs
total-remove worth [] n x there = absurd (cc)
total-remove worth (y ∷ xs) zero x there = let same : y ≡ x = cc in let is : worth y ≡ worth x = ap worth same in omega (arith, is)
total-remove worth (y ∷ xs) (suc n) x there = let more : total worth (remove xs n) + worth x ≡ total worth xs = total-remove worth xs n x there in omega (arith, more)

-- one item changed
pub total-set : {X : Type 0} (worth : X → ℕ) (xs : List X) (n : ℕ) (x y : X) → slice_get xs n ≡ Some x → total worth (set xs n y) + worth x ≡ total worth xs + worth y
total-set worth [] n x y there = absurd (cc)
total-set worth (z ∷ xs) zero x y there = let same : z ≡ x = cc in let is : worth z ≡ worth x = ap worth same in omega (arith, is)
total-set worth (z ∷ xs) (suc n) x y there = let more : total worth (set xs n y) + worth x ≡ total worth xs + worth y = total-set worth xs n x y there in omega (arith, more)

-- an item changed to one that is worth the same
pub total-kept : {X : Type 0} (worth : X → ℕ) (xs : List X) (n : ℕ) (x y : X) → slice_get xs n ≡ Some x → worth y ≡ worth x → total worth (set xs n y) ≡ total worth xs
total-kept worth xs n x y there same = let all = total-set worth xs n x y there in omega (arith, all, same)

-- the last item less
pub popped : {X : Type 0} (o : Option X) (old new' : List X) → old ≡ new' ++ option_to_list o → IfSome o (λ x. (worth : X → ℕ) → total worth new' + worth x ≡ total worth old)
popped None old new' is = tt
popped (Some x) old new' is = λ worth. rw is (sym (total-push worth new' x))

-- one item further
pub total-more : {X : Type 0} (worth : X → ℕ) (xs : List X) (n : ℕ) (d : X) → n < length xs → total worth (take (n + 1) xs) ≡ total worth (take n xs) + worth (get_or xs n d)
total-more worth xs n d less = ap (total worth) (take_more xs n d less) ∙ total-push worth (take n xs) (get_or xs n d)

pub total-all : {X : Type 0} (worth : X → ℕ) (xs : List X) (n : ℕ) → length xs ≤ n → total worth (take n xs) ≡ total worth xs
total-all worth xs n past = ap (total worth) (take_all n xs past)

pub total-map : {X Y : Type 0} (f : X → Y) (worth : Y → ℕ) (own : X → ℕ) (xs : List X) → ((x : X) → own x ≡ worth (f x)) → total own xs ≡ total worth (map f xs)
total-map f worth own [] same = refl
total-map f worth own (x ∷ xs) same = let here = same x in let more = total-map f worth own xs same in omega (arith, here, more)

-- no items
pub total-none : {X : Type 0} (worth : X → ℕ) (xs : List X) → length xs ≡ 0 → total worth xs ≡ 0
total-none worth [] none = refl
total-none worth (x ∷ xs) none = absurd (omega (arith, none))

pub popped_none : {X : Type 0} (o : Option X) (old : List X) (n m : ℕ) → MatchOption o ((n ≡ 0) × (m ≡ 0)) (λ x. m + 1 ≡ n) → length old ≡ n → IfNone o ((worth : X → ℕ) → total worth old ≡ 0)
popped_none None old n m empty len = λ worth. total-none worth old (len ∙ empty.0)
popped_none (Some x) old n m empty len = tt
