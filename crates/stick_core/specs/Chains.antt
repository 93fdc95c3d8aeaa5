-- Chains of places that share their links.
use Rattle.std.specs.Prelude.{◌≢◌, ◌++◌, ◌∷◌, ℕ, List, [], map, get_or, set}
use Rattle.stick_core.specs.declared.links.Link.{Link}
use Rattle.stick_core.specs.Links.{end, ordered, IsLinked}
use Rattle.stick_core.specs.Ring.{Has, Lacks, without}

-- what contracts see of chains
pub record Chaining : Type 0 where
  -- of each, the first place first
  pub chains : List (List ℕ)
  -- how many places there are, in a chain or not
  pub places : ℕ
  -- for how many more places there is memory
  pub spare : ℕ

-- a chain; where there is none, it has no places
abbrev pub chain_at : List (List ℕ) → ℕ → List ℕ
chain_at chains chain = get_or chains chain []

-- a chain without a place
abbrev pub taken_out : List (List ℕ) → ℕ → ℕ → List (List ℕ)
taken_out chains chain place = set chains chain (without place (chain_at chains chain))

-- a chain with one place more, at its end
abbrev pub put_at_end : List (List ℕ) → ℕ → ℕ → List (List ℕ)
put_at_end chains chain place = set chains chain (chain_at chains chain ++ place ∷ [])

-- the ends of a chain without places
abbrev pub no_ends : Link
no_ends = record { before = end; after = end }

-- the chains of their ends
abbrev pub chained : List Link → List Link → List (List ℕ)
chained ends links = map (λ e. ordered e links) ends

-- no place is in two chains
abbrev pub AreApart : List (List ℕ) → Type 0
AreApart chains = (chain other place : ℕ) → chain ≢ other → Has place (chain_at chains chain) → Lacks place (chain_at chains other)

-- each chain is linked
pub record AreLinked (ends links : List Link) : Type 0 where
  pub each : (chain : ℕ) → IsLinked (get_or ends chain no_ends) links
  pub apart : AreApart (chained ends links)
