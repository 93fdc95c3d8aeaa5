-- Versions of which none is to be forgotten.
use Rattle.std.proofs.Common.{◌≡◌, ◌⊎◌, ℕ, ◌+◌, ◌-◌, ◌<◌, true, false, List, length, Some, sym, ap, ◌∙◌, subst, inl, inr, arith}
use Rattle.std.specs.Prelude.{nat_lt, slice_get, slice_set, IsSome, ◌==◌, ◌||◌, ◌≢◌}
use Rattle.std.specs.Option.{option_map_or}
use Rattle.std.proofs.lemmas.Bool.{cases_lt, eq-eqb}
use Rattle.std.proofs.lemmas.Bool.Decides.{nat_tests}
use Rattle.std.proofs.lemmas.Option.{slice_get_within}
use Rattle.list_core.proofs.Items.{length-set, set-cases, within}
use Rattle.list_core.proofs.NewestLemmas.{slice_get-last}
use Rattle.slot_core.specs.declared.slots.Count.{Count}
use Rattle.conn_model.specs.declared.plain.Version.{Version}
use Rattle.conn_model.specs.Answer.{version_at}
use Rattle.conn_model.specs.Words.{newest}
use Rattle.conn_model.proofs.Lists.{or_left, or_right}
use Rattle.conn_versions.specs.declared.versions.VersionPicks.{VersionPicks}
use Rattle.conn_versions.specs.Judged.{is_in_use, judged_in}
use Rattle.conn_versions.specs.Kept.{connections_of, AreBusy, AreKept}
use Rattle.conn_versions.proofs.Judged.{judged-at, kept_place, place_kept}
use Rattle.conn_versions.proofs.Places.{rise-at}

-- one of them changes
pub busy_set : (all : List VersionPicks) (n : ℕ) (own next : VersionPicks) → slice_get all n ≡ Some own → (0 < own.connections → 0 < next.connections) →
    AreBusy all → AreBusy (slice_set all n next)
busy_set all n own next there more busy m picks before at = by (set-cases all n m next picks at)
  where
    less : m + 1 < length all
    less = let same = length-set all n next in omega (arith, before, same)

    by : ((m ≡ n) × (next ≡ picks)) ⊎ ((m ≢ n) × (slice_get all m ≡ Some picks)) → 0 < picks.connections
    by (inl here) = subst (λ p. 0 < p.connections) here.1 (more (busy n own (subst (λ k. k + 1 < length all) here.0 less) there))
    by (inr other) = busy m picks less other.1

-- the number of the newest
abbrev force_of : List Version → ℕ
force_of versions = option_map_or (λ version. version.number) (newest versions) 0

force_is : (versions : List Version) (last : Version) → slice_get versions (length versions - 1) ≡ Some last → force_of versions ≡ last.number
force_is versions last there = ap (λ o. option_map_or (λ version. version.number) o 0) (sym (slice_get-last versions) ∙ there)

-- each is in use
pub busy_in_use : (counts : List Count) (versions : List Version) (all : List VersionPicks) → AreKept counts versions all → AreBusy all →
    (number : ℕ) → IsSome (version_at versions number) → is_in_use (judged_in versions (connections_of all)) (force_of versions) number ≡ true
busy_in_use counts versions all kept busy number some = elim (cases_lt (place + 1) (length versions)) [
  | inl before ↦
      let many = kept.many in
      let own = within all place (omega (arith, before, many)) in
      let busy_there : 0 < own.0.connections = busy place own.0 (omega (arith, before, many)) own.1 in
      let judged : judged_in versions (connections_of all) number ≡ own.0.connections =
      ap (judged_in versions (connections_of all)) (sym named) ∙ judged-at versions all place version own.0 kept.rise there own.1 in
      let is : nat_lt 0 (judged_in versions (connections_of all) number) ≡ true = grind (arith, nat_tests, busy_there, judged) in
      or_right (number == force_of versions) (nat_lt 0 (judged_in versions (connections_of all) number)) is
  | inr after ↦
      let last : place ≡ length versions - 1 = omega (arith, after, less) in
      let force : force_of versions ≡ number = force_is versions version (ap (slice_get versions) (sym last) ∙ there) ∙ named in
      or_left (number == force_of versions) (nat_lt 0 (judged_in versions (connections_of all) number)) (eq-eqb number (force_of versions) (sym force))
]
  where
    found : (n : ℕ) × (version : Version) × (slice_get versions n ≡ Some version) × (version.number ≡ number)
    found = kept_place versions number some

    place : ℕ
    place = found.0

    version : Version
    version = found.1

    there : slice_get versions place ≡ Some version
    there = found.2

    named : version.number ≡ number
    named = found.3

    less : place < length versions
    less = slice_get_within versions place version there

-- and where each is, each but the newest judges an open connection
pub in_use_busy : (counts : List Count) (versions : List Version) (all : List VersionPicks) → AreKept counts versions all →
    ((number : ℕ) → IsSome (version_at versions number) → is_in_use (judged_in versions (connections_of all)) (force_of versions) number ≡ true) → AreBusy all
in_use_busy counts versions all kept each n own before there =
    let many = kept.many in
    let at = within versions n (omega (arith, before, many)) in
    let last = within versions (length versions - 1) (omega (arith, before, many)) in
    let less : at.0.number < last.0.number = rise-at (λ v. v.number) versions kept.rise n (length versions - 1) at.0 last.0 (omega (arith, before, many)) at.1 last.1 in
    let force : force_of versions ≡ last.0.number = force_is versions last.0 last.1 in
    let judged : judged_in versions (connections_of all) at.0.number ≡ own.connections = judged-at versions all n at.0 own kept.rise at.1 there in
    let differs : (at.0.number == force_of versions) ≡ false = grind (arith, nat_tests, less, force) in
    let passes : ((at.0.number == force_of versions) || nat_lt 0 (judged_in versions (connections_of all) at.0.number)) ≡ true =
    each at.0.number (place_kept versions n at.0 at.1) in
    let some : nat_lt 0 own.connections ≡ true = ap (nat_lt 0) (sym judged) ∙ (rw differs at passes) in
    grind (arith, nat_tests, some)
