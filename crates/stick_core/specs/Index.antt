-- Counts by addresses, in chains of places.
use Rattle.std.specs.Prelude.{◌≡◌, ◌<◌, ℕ, true, false, List, length, get_or, set, ◌*◌, ◌/◌, ◌%◌, ◌^◌, eqb}
use Rattle.std.specs.List.{fold}
use Rattle.std.specs.Hash.{u128}
use Rattle.std.specs.Hash.FoldHasher.{write, finish}
use Rattle.std.specs.Hash.BuildHasherDefault.{initial_hasher}
use Rattle.std.specs.declared.hash.BuildHasherDefault.{BuildHasherDefault}
use Rattle.std.specs.declared.hash.FoldHasher.{FoldHasher}
use Rattle.addr_core.specs.declared.addr.Addr.{Addr}
use Rattle.addr_core.specs.declared.addr.Addr.TheVariants.{V4, V6}
use Rattle.addr_core.specs.Same.{same_addr}
use Rattle.stick_core.specs.declared.index.Counts.{Counts}
use Rattle.stick_core.specs.Chains.{Chaining, chain_at}
use Rattle.stick_core.specs.Ring.{Has}

-- what contracts see of an index
pub record Indexing : Type 0 where
  -- by their places
  pub entries : List (Addr × Counts)
  -- for how many more entries there is memory
  pub spare : ℕ

abbrev pub nothing : Addr × Counts
nothing = (V4 0, record { cur = 0; cnt = 0; last_touch = 0 })

abbrev pub key_at : List (Addr × Counts) → ℕ → Addr
key_at entries place = (get_or entries place nothing).0

abbrev pub counts_at : List (Addr × Counts) → ℕ → Counts
counts_at entries place = (get_or entries place nothing).1

-- other counts at a place
abbrev pub with_counts : List (Addr × Counts) → ℕ → Counts → List (Addr × Counts)
with_counts entries place counts = set entries place (key_at entries place, counts)

-- the place has the key, and no other has
pub record IsPlaceOf (key : Addr) (entries : List (Addr × Counts)) (place : ℕ) : Type 0 where
  pub within : place < length entries
  pub each : (q : ℕ) → q < length entries → same_addr (key_at entries q) key ≡ eqb q place

abbrev pub IsNoPlaceOf : Addr → List (Addr × Counts) → Type 0
IsNoPlaceOf key entries = (q : ℕ) → q < length entries → same_addr (key_at entries q) key ≡ false

abbrev pub key_number : Addr → ℕ
key_number (V4 number) = number
key_number (V6 number) = number

-- the chain of a key, of so many
abbrev pub chain_of : BuildHasherDefault FoldHasher → ℕ → Addr → ℕ
chain_of hash chains key = finish (fold write (initial_hasher hash) (u128 (key_number key))) % 2 ^ 64 * chains / 2 ^ 64

-- the first places, so many of them, are each in the chain of its key, and no others are in any
pub record IsChained (of : Addr → ℕ) (entries : List (Addr × Counts)) (chains : List (List ℕ)) (places : ℕ) : Type 0 where
  pub each : (place : ℕ) → place < places → Has place (chain_at chains (of (key_at entries place)))
  pub own : (chain place : ℕ) → Has place (chain_at chains chain) → (place < places) × (of (key_at entries place) ≡ chain)

-- all of them, in as many chains as there are
abbrev pub AreAllChained : BuildHasherDefault FoldHasher → List (Addr × Counts) → List (List ℕ) → Type 0
AreAllChained hash entries chains = IsChained (chain_of hash (length chains)) entries chains (length entries)

-- no two places have one key
abbrev pub HasKeysApart : List (Addr × Counts) → Type 0
HasKeysApart entries = (p q : ℕ) → p < length entries → q < length entries → same_addr (key_at entries p) (key_at entries q) ≡ true → p ≡ q

-- each entry is found by its key
pub record IsIndexed (hash : BuildHasherDefault FoldHasher) (entries : List (Addr × Counts)) (chains : Chaining) : Type 0 where
  pub places : chains.places ≡ length entries
  pub chained : AreAllChained hash entries chains.chains
  pub apart : HasKeysApart entries
