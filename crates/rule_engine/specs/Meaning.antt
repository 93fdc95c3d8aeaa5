-- The connection that rules are asked about.
use Rattle.std.specs.Prelude.{◌≡◌, ℕ, Bool, List, [], ◌∷◌, Option, Some, None}
use Rattle.addr_core.specs.declared.addr.Addr.{Addr}
use Rattle.acl_core.specs.declared.condition.Acl.{Acl}
use Rattle.acl_core.specs.declared.criterion.Criterion.{Criterion}
use Rattle.acl_core.specs.declared.criterion.Value.{Value}
use Rattle.plan_types.specs.declared.track.TableId.{TableId}
use Rattle.plan_types.specs.declared.track.Track.{Track}

-- A connection before a list of rules: which counters tracked nothing yet, the ACLs of its section, and,
-- once the list has made some tracks, the value of a criterion, and what a track in a table would track.
pub record SceneMeaning : Type 0 where
  pub is_free : ℕ → Bool
  pub acls : List Acl
  pub worth : List Track → Criterion → Value
  pub key : List Track → ℕ → Option (TableId × Addr)

-- the tracks there are, by counter
abbrev pub present : List (Option Track) → List Track
present [] = []
present (None ∷ rest) = present rest
present (Some track ∷ rest) = track ∷ present rest

-- two scenes that no condition and no track tells apart
pub record AreAlike (a b : SceneMeaning) : Type 0 where
  pub is_free : (counter : ℕ) → a.is_free counter ≡ b.is_free counter
  pub acls : a.acls ≡ b.acls
  pub worth : (tracks : List Track) (criterion : Criterion) → a.worth tracks criterion ≡ b.worth tracks criterion
  pub key : (tracks : List Track) (number : ℕ) → a.key tracks number ≡ b.key tracks number
