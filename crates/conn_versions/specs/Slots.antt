-- The places at which the open connections of servers are counted.
use Rattle.std.specs.Prelude.{ℕ, Bool, true, List, length, slice_get, Some, ◌≡◌, ◌<◌, ◌≤◌}
use Rattle.std.specs.List.{AllByRecursion}
use Rattle.slot_core.specs.declared.slots.Count.{Count}
use Rattle.slot_core.specs.declared.slots.SlotIx.{SlotIx}
use Rattle.slot_core.specs.Counts.{identity_at, named_at, open_at, IdentitiesDiffer}
use Rattle.plan_types.specs.declared.plan.Backend.{Backend}
use Rattle.plan_types.specs.declared.plan.Server.{Server}
use Rattle.proxy_types.specs.declared.limits.TheConstants.{MOST_SERVERS}
use Rattle.conn_model.specs.Servers.{identity_in}

-- each place is that of the server of its number
abbrev pub AreAtPlaces : List Count → Backend → List SlotIx → Type 0
AreAtPlaces counts backend places =
    (n : ℕ) (server : Server) (ix : SlotIx) → slice_get backend.servers n ≡ Some server → slice_get places n ≡ Some ix → identity_at ix.place counts ≡ Some (identity_in backend server)

-- each server of the backend is counted at its place
pub record AreSlots (counts : List Count) (backend : Backend) (places : List SlotIx) : Type 0 where
  pub many : length places ≡ length backend.servers
  pub each : AreAtPlaces counts backend places

-- and no two counts are of one server
pub record IsServed (counts : List Count) (backend : Backend) (places : List SlotIx) : Type 0 where
  pub few : length backend.servers ≤ MOST_SERVERS
  pub apart : IdentitiesDiffer counts
  pub slots : AreSlots counts backend places

-- each of the places is named
abbrev pub AreNamed : List Bool → List SlotIx → Type 0
AreNamed named places = AllByRecursion (λ ix. named_at ix.place named ≡ true) places

-- each of the places is named, if there is such a place
abbrev pub AreNoted : List Bool → List SlotIx → Type 0
AreNoted named places = (n : ℕ) (ix : SlotIx) → slice_get places n ≡ Some ix → ix.place < length named → named_at ix.place named ≡ true

-- what is named, or has open connections, keeps its identity; the open connections are as before, and what is named stays so
pub record KeepsPlaces (old : List Count) (before : List Bool) (next : List Count) (after : List Bool) : Type 0 where
  pub apart : IdentitiesDiffer next
  pub many : length after ≡ length next
  pub named : (place : ℕ) → named_at place before ≡ true → named_at place after ≡ true
  pub kept : (place : ℕ) → named_at place before ≡ true → identity_at place next ≡ identity_at place old
  pub open_kept : (place : ℕ) → 0 < open_at place old → identity_at place next ≡ identity_at place old
  pub open_as_before : (place : ℕ) → open_at place next ≡ open_at place old
