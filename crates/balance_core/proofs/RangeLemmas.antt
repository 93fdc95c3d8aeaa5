-- Numbers in a row.
use Rattle.std.proofs.Common.{◌≡◌, ℕ, zero, suc, ◌<◌, ◌≤◌, ◌+◌, ◌-◌, Bool, true, false, List, [], ◌∷◌, ◌++◌, take, Option, Some, None, refl, arith}
use Rattle.std.specs.Prelude.{option_map, find}
use Rattle.std.specs.List.{range_with_len}
use Rattle.std.specs.Option.{option_or}
use Rattle.std.proofs.lemmas.List.Folds.{find-append}
use Rattle.balance_core.specs.declared.load.ServerLoad.{ServerLoad}
use Rattle.balance_core.specs.Loads.{weight_at, total_weight}

-- the first of them
pub range-first : (n end : ℕ) → n < end → range_with_len n (end - n) ≡ n ∷ range_with_len (n + 1) (end - (n + 1))
range-first n end lt =
    let e : end - n ≡ suc (end - (n + 1)) = omega arith in
    rw e refl

-- and none are left
pub range-none : (n end : ℕ) → end ≤ n → range_with_len n (end - n) ≡ []
range-none n end le =
    let e : end - n ≡ 0 = omega arith in
    rw e refl

-- a search goes past a number that fails
pub find-past : (p : ℕ → Bool) (n end : ℕ) → n < end → p n ≡ false → find p (range_with_len n (end - n)) ≡ find p (range_with_len (n + 1) (end - (n + 1)))
find-past p n end lt fails = rw (range-first n end lt, fails) refl

-- and ends at one that passes
pub find-here : (p : ℕ → Bool) (n end : ℕ) → n < end → p n ≡ true → find p (range_with_len n (end - n)) ≡ Some n
find-here p n end lt passes = rw (range-first n end lt, passes) refl

pub find-none : (p : ℕ → Bool) (n end : ℕ) → end ≤ n → find p (range_with_len n (end - n)) ≡ None
find-none p n end le = rw (range-none n end le) refl

-- one weight more
pub total_weight-more : (servers : List ServerLoad) (n : ℕ) → total_weight (take (n + 1) servers) ≡ total_weight (take n servers) + weight_at servers n
total_weight-more [] zero = refl
total_weight-more [] (suc n) =
    let e : suc n + 1 ≡ suc (n + 1) = omega arith in
    rw e refl
total_weight-more (server ∷ servers) zero = omega arith
total_weight-more (server ∷ servers) (suc n) =
    let e : suc n + 1 ≡ suc (n + 1) = omega arith in
    rw e (omega (arith, total_weight-more servers n))

-- a search that goes round finds what its first part finds, or else what its second part does
pub found_first : {X : Type 0} (f : ℕ → X) (p : ℕ → Bool) (xs ys : List ℕ) (x : X) → Some x ≡ option_map f (find p xs) → Some x ≡ option_map f (find p (xs ++ ys))
found_first {X} f p xs ys x e = rw (find-append p xs ys) (by (find p xs) e)
  where
    by : (o : Option ℕ) → Some x ≡ option_map f o → Some x ≡ option_map f (option_or o (find p ys))
    by None e = absurd (cc)
    by (Some n) e = e

pub found_then : {X : Type 0} (f : ℕ → X) (p : ℕ → Bool) (xs ys : List ℕ) → None ≡ option_map f (find p xs) → option_map f (find p ys) ≡ option_map f (find p (xs ++ ys))
found_then {X} f p xs ys e = rw (find-append p xs ys) (by (find p xs) e)
  where
    by : (o : Option ℕ) → None ≡ option_map f o → option_map f (find p ys) ≡ option_map f (option_or o (find p ys))
    by None e = refl
    by (Some n) e = absurd (cc)
