-- What is found of a version, and of a server of it.
use Rattle.std.proofs.Common.{◌≡◌, ℕ, ◌+◌, ◌-◌, ◌<◌, List, length, get_or, Some, refl, sym, ap, ◌∙◌, arith}
use Rattle.std.specs.Prelude.{find, position, slice_get}
use Rattle.std.proofs.lemmas.Option.{slice_get_read, slice_get_within}
use Rattle.slot_core.specs.declared.slots.Count.{Count}
use Rattle.slot_core.specs.declared.slots.SlotIx.{SlotIx}
use Rattle.slot_core.specs.Counts.{identity_at, IdentitiesDiffer}
use Rattle.plan_types.specs.declared.plan.Backend.{Backend}
use Rattle.plan_types.specs.Lines.{has_line}
use Rattle.plan_types.specs.Sound.{IsSoundBackend, IsSoundPlan}
use Rattle.conn_model.specs.declared.plain.Version.{Version}
use Rattle.conn_model.specs.Answer.{version_at}
use Rattle.conn_model.specs.Words.{newest}
use Rattle.conn_model.specs.Servers.{cursor_at, identity_in}
use Rattle.conn_model.proofs.Lists.{all-at, found_there, position_within}
use Rattle.conn_versions.specs.declared.picks.BackendPicks.{BackendPicks}
use Rattle.conn_versions.specs.declared.versions.VersionPicks.{VersionPicks}
use Rattle.conn_versions.specs.Versions.{has_number, HasServer}
use Rattle.conn_versions.specs.Slots.{AreSlots, IsServed}
use Rattle.conn_versions.specs.Picks.{IsTied}
use Rattle.conn_versions.specs.Kept.{AreKept, IsKept}
use Rattle.list_core.proofs.Items.{one_item}
use Rattle.list_core.proofs.NewestLemmas.{slice_get-last}
use Rattle.list_core.proofs.PlaceLemmas.{find-passes}
use Rattle.std.proofs.lemmas.Bool.{eqb-true}

pub version_there : (versions : List Version) (number place : ℕ) (kept : Version) → position (has_number number) versions ≡ Some place → kept ≡ get_or versions place kept → version_at versions number ≡ Some kept
version_there versions number place kept there read =
    found_there (has_number number) versions place there ∙ slice_get_read versions (length versions) place kept refl (position_within (has_number number) versions place there) read

-- a version at its place, with what its picks go by
pub record FoundVersion (counts : List Count) (versions : List Version) (all : List VersionPicks) (number place : ℕ) (kept : Version) (own : VersionPicks) : Type 0 where
  pub at : slice_get versions place ≡ Some kept
  pub own_at : slice_get all place ≡ Some own
  pub named : version_at versions number ≡ Some kept
  pub numbered : kept.number ≡ number
  pub is : IsKept counts kept own.backends.items
  pub sound : IsSoundPlan kept.plan

pub found_version : (counts : List Count) (versions : List Version) (all : List VersionPicks) (number place : ℕ) (kept : Version) (own : VersionPicks) → AreKept counts versions all →
    position (has_number number) versions ≡ Some place → kept ≡ get_or versions place kept → own ≡ get_or all place own → FoundVersion counts versions all number place kept own
found_version counts versions all number place kept own inv there read own_read = record {
  at = at;
  own_at = own_at;
  named = named;
  numbered = eqb-true kept.number number (find-passes (has_number number) versions kept named);
  is = inv.each place kept own at own_at;
  sound = all-at (λ v. IsSoundPlan v.plan) versions place kept inv.sound at;
}
  where
    less : place < length versions
    less = position_within (has_number number) versions place there

    at : slice_get versions place ≡ Some kept
    at = slice_get_read versions (length versions) place kept refl less read

    own_at : slice_get all place ≡ Some own
    own_at = let many = inv.many in slice_get_read all (length all) place own refl (omega (arith, less, many)) own_read

    named : version_at versions number ≡ Some kept
    named = version_there versions number place kept there read

-- a backend of it
pub record FoundBackend (counts : List Count) (kept : Version) (number : ℕ) (backend : Backend) (picks : BackendPicks) : Type 0 where
  pub at : slice_get kept.plan.backends number ≡ Some backend
  pub served : IsServed counts backend picks.slots
  pub tied : IsTied backend (cursor_at kept.cursors number) picks

pub within_own : (counts : List Count) (kept : Version) (own : List BackendPicks) (number : ℕ) → IsKept counts kept own → number < length kept.plan.backends → number < length own
within_own counts kept own number is less = let many = is.tied.many in omega (arith, less, many)

pub backend_there : (counts : List Count) (kept : Version) (own : VersionPicks) (number : ℕ) (backend : Backend) (picks : BackendPicks) → IdentitiesDiffer counts → IsKept counts kept own.backends.items →
    IsSoundPlan kept.plan → number < length kept.plan.backends → backend ≡ get_or kept.plan.backends number backend → picks ≡ get_or own.backends.items number picks → FoundBackend counts kept number backend picks
backend_there counts kept own number backend picks apart is sound less read picks_read = record {
  at = at;
  served = record {
    few = (all-at IsSoundBackend kept.plan.backends number backend sound.each_backend at).servers;
    apart = apart;
    slots = is.counted number backend picks at picks_at;
  };
  tied = is.tied.each number backend picks at picks_at;
}
  where
    at : slice_get kept.plan.backends number ≡ Some backend
    at = slice_get_read kept.plan.backends (length kept.plan.backends) number backend refl less read

    picks_at : slice_get own.backends.items number ≡ Some picks
    picks_at = slice_get_read own.backends.items (length own.backends.items) number picks refl (within_own counts kept own.backends.items number is less) picks_read

pub found_backend : (counts : List Count) (versions : List Version) (all : List VersionPicks) (version place number : ℕ) (kept : Version) (own : VersionPicks) (backend : Backend) (picks : BackendPicks) →
    AreKept counts versions all → FoundVersion counts versions all version place kept own → number < length kept.plan.backends → backend ≡ get_or kept.plan.backends number backend →
    picks ≡ get_or own.backends.items number picks → FoundBackend counts kept number backend picks
found_backend counts versions all version place number kept own backend picks inv found = backend_there counts kept own number backend picks inv.apart found.is found.sound

-- the newest version, with what its picks go by
pub record NewestVersion (counts : List Count) (versions : List Version) (kept : Version) (own : VersionPicks) : Type 0 where
  pub newest_is : newest versions ≡ Some kept
  pub is : IsKept counts kept own.backends.items
  pub sound : IsSoundPlan kept.plan

pub newest_there : (counts : List Count) (versions : List Version) (all : List VersionPicks) (place : ℕ) (kept : Version) (own : VersionPicks) → AreKept counts versions all → place + 1 ≡ length versions →
    kept ≡ get_or versions place kept → own ≡ get_or all place own → NewestVersion counts versions kept own
newest_there counts versions all place kept own inv last read own_read = record {
  newest_is = sym (slice_get-last versions) ∙ ap (slice_get versions) before ∙ at;
  is = inv.each place kept own at own_at;
  sound = all-at (λ v. IsSoundPlan v.plan) versions place kept inv.sound at;
}
  where
    less : place < length versions
    less = omega (arith, last)

    before : length versions - 1 ≡ place
    before = omega (arith, last)

    at : slice_get versions place ≡ Some kept
    at = slice_get_read versions (length versions) place kept refl less read

    own_at : slice_get all place ≡ Some own
    own_at = let many = inv.many in slice_get_read all (length all) place own refl (omega (arith, less, many)) own_read

-- the server of a line
pub record FoundServer (counts : List Count) (versions : List Version) (version line server : ℕ) (there : HasServer versions version line server) (kept : Version) (own : VersionPicks) (number : ℕ) (picks : BackendPicks) : Type 0 where
  pub below : server < length picks.slots
  pub counted : (ix : SlotIx) → slice_get picks.slots server ≡ Some ix → identity_at ix.place counts ≡ Some (identity_in there.backend there.server)

pub found_server : (counts : List Count) (versions : List Version) (all : List VersionPicks) (version line server place number : ℕ) (kept : Version) (own : VersionPicks) (picks : BackendPicks) →
    (there : HasServer versions version line server) → FoundVersion counts versions all version place kept own → position (has_line line) kept.plan.backends ≡ Some number →
    picks ≡ get_or own.backends.items number picks → FoundServer counts versions version line server there kept own number picks
found_server counts versions all version line server place number kept own picks there found line_at picks_read = record {
  below = below;
  counted = λ ix is. slots.each server there.server ix there.server_is is;
}
  where
    same : there.kept ≡ kept
    same = one_item (version_at versions version) there.kept kept there.version_is found.named

    backend_at : slice_get kept.plan.backends number ≡ Some there.backend
    backend_at = sym (found_there (has_line line) kept.plan.backends number line_at) ∙ ap (λ v. find (has_line line) v.plan.backends) (sym same) ∙ there.backend_is

    picks_at : slice_get own.backends.items number ≡ Some picks
    picks_at = slice_get_read own.backends.items (length own.backends.items) number picks refl
        (within_own counts kept own.backends.items number found.is (position_within (has_line line) kept.plan.backends number line_at)) picks_read

    slots : AreSlots counts there.backend picks.slots
    slots = found.is.counted number there.backend picks backend_at picks_at

    below : server < length picks.slots
    below = let less = slice_get_within there.backend.servers server there.server there.server_is in let many = slots.many in omega (arith, less, many)
