-- The versions that are kept, with what picks of their backends go by.
use Rattle.std.specs.Prelude.{ℕ, Bool, true, List, Option, length, map, slice_get, Some, ◌+◌, ◌<◌, ◌≡◌}
use Rattle.proxy_types.specs.declared.balance.Place.{Place}
use Rattle.slot_core.specs.declared.slots.Count.{Count}
use Rattle.slot_core.specs.Counts.{IdentitiesDiffer}
use Rattle.plan_types.specs.declared.plan.Backend.{Backend}
use Rattle.conn_model.specs.declared.plain.Version.{Version}
use Rattle.conn_model.specs.Words.{Rise}
use Rattle.conn_model.specs.Servers.{cursor_at}
use Rattle.conn_versions.specs.declared.picks.BackendPicks.{BackendPicks}
use Rattle.conn_versions.specs.declared.versions.VersionPicks.{VersionPicks}
use Rattle.conn_versions.specs.Versions.{AreSound}
use Rattle.conn_versions.specs.Slots.{AreNoted, AreSlots}
use Rattle.conn_versions.specs.Picks.{IsTied}

-- each backend's cursor is tied to what its picks go by
pub record AreTied (backends : List Backend) (cursors : List (Option Place)) (own : List BackendPicks) : Type 0 where
  pub one_each : length cursors ≡ length backends
  pub many : length own ≡ length backends
  pub each : (n : ℕ) (backend : Backend) (picks : BackendPicks) → slice_get backends n ≡ Some backend → slice_get own n ≡ Some picks → IsTied backend (cursor_at cursors n) picks

-- each backend's servers are counted at their places
abbrev pub AreCounted : List Count → List Backend → List BackendPicks → Type 0
AreCounted counts backends own =
    (n : ℕ) (backend : Backend) (picks : BackendPicks) → slice_get backends n ≡ Some backend → slice_get own n ≡ Some picks → AreSlots counts backend picks.slots

-- what picks of a version go by
pub record IsKept (counts : List Count) (version : Version) (own : List BackendPicks) : Type 0 where
  pub tied : AreTied version.plan.backends version.cursors own
  pub counted : AreCounted counts version.plan.backends own

-- how many open connections each version judges
abbrev pub connections_of : List VersionPicks → List ℕ
connections_of all = map (λ own. own.connections) all

-- the numbers of the versions rise, and each is kept with what its picks go by
pub record AreKept (counts : List Count) (versions : List Version) (all : List VersionPicks) : Type 0 where
  pub apart : IdentitiesDiffer counts
  pub rise : Rise (λ version. version.number) versions
  pub sound : AreSound versions
  pub many : length all ≡ length versions
  pub each : (n : ℕ) (version : Version) (own : VersionPicks) → slice_get versions n ≡ Some version → slice_get all n ≡ Some own → IsKept counts version own.backends.items

-- each version but the newest judges an open connection
abbrev pub AreBusy : List VersionPicks → Type 0
AreBusy all = (n : ℕ) (own : VersionPicks) → n + 1 < length all → slice_get all n ≡ Some own → 0 < own.connections

-- what is kept, and what is known of it
pub record AreVersions (counts : List Count) (versions : List Version) (all : List VersionPicks) (settled : Bool) : Type 0 where
  pub kept : AreKept counts versions all
  pub busy : settled ≡ true → AreBusy all

-- each place of each backend is named, if there is such a place
abbrev pub AreAllNoted : List Bool → List BackendPicks → Type 0
AreAllNoted named own = (n : ℕ) (picks : BackendPicks) → slice_get own n ≡ Some picks → AreNoted named picks.slots
