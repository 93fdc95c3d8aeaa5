-- Lists of places that links lead along.
use Rattle.std.specs.Prelude.{◌≡◌, ◌≢◌, ◌<◌, ◌⊎◌, ℕ, zero, suc, not, List, [], ◌∷◌, filter, Option, Some, None, cond, eqb}

-- what contracts see of an order
pub record Ranking : Type 0 where
  -- the first one first
  pub order : List ℕ
  -- how many places there are, in the order or not
  pub places : ℕ
  -- for how many more places there is memory
  pub spare : ℕ

abbrev pub Has : ℕ → List ℕ → Type 0
Has p [] = ⊥
Has p (x ∷ xs) = (p ≡ x) ⊎ Has p xs

abbrev pub Lacks : ℕ → List ℕ → Type 0
Lacks p [] = Unit {0}
Lacks p (x ∷ xs) = (p ≢ x) × Lacks p xs

abbrev pub Distinct : List ℕ → Type 0
Distinct [] = Unit {0}
Distinct (x ∷ xs) = Lacks x xs × Distinct xs

abbrev pub Below : ℕ → List ℕ → Type 0
Below n [] = Unit {0}
Below n (x ∷ xs) = (x < n) × Below n xs

abbrev pub without : ℕ → List ℕ → List ℕ
without p xs = filter (λ q. not (eqb q p)) xs

-- the links lead from s along the list to e, and back
abbrev pub Chain : (ℕ → ℕ) → (ℕ → ℕ) → ℕ → List ℕ → ℕ → Type 0
Chain a b s [] e = (a s ≡ e) × (b e ≡ s)
Chain a b s (x ∷ xs) e = (a s ≡ x) × (b x ≡ s) × Chain a b x xs e

-- where the links lead from p, until e, at most n steps
abbrev pub walk : (ℕ → ℕ) → ℕ → ℕ → ℕ → List ℕ
walk a e zero p = []
walk a e (suc n) p = cond (eqb (a p) e) [] (a p ∷ walk a e n (a p))

pub record IsRing (a b : ℕ → ℕ) (n e : ℕ) (xs : List ℕ) : Type 0 where
  pub chain : Chain a b e xs e
  pub once : Distinct xs
  pub below : Below n xs

abbrev pub first_of : List ℕ → Option ℕ
first_of [] = None
first_of (x ∷ xs) = Some x

-- what comes after p
abbrev pub next_of : ℕ → List ℕ → Option ℕ
next_of p [] = None
next_of p (x ∷ xs) = cond (eqb x p) (first_of xs) (next_of p xs)
