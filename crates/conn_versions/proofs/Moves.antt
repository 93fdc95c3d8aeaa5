-- What an offer changes of the versions that are kept.
use Rattle.std.proofs.Common.{◌≡◌, ℕ, zero, suc, ◌<◌, Bool, true, false, List, [], ◌∷◌, ◌++◌, length, map, Option, Some, None, refl, sym, ap, ◌∙◌, arith, subst, inl, inr, ◌⊎◌}
use Rattle.std.specs.Prelude.{position, slice_get, slice_set, ◌==◌, ◌≢◌}
use Rattle.std.specs.Option.{option_and_then}
use Rattle.std.specs.List.{AllByRecursion}
use Rattle.std.proofs.lemmas.Bool.{eq-eqb}
use Rattle.std.proofs.lemmas.Bool.Decides.{nat_tests}
use Rattle.std.proofs.lemmas.Option.{slice_get_within}
use Rattle.proxy_types.specs.declared.balance.Place.{Place}
use Rattle.slot_core.specs.declared.slots.Count.{Count}
use Rattle.slot_core.specs.Counts.{with_open, IdentitiesDiffer}
use Rattle.slot_core.proofs.CountLemmas.{differ-changed}
use Rattle.plan_types.specs.declared.plan.Backend.{Backend}
use Rattle.plan_types.specs.Lines.{has_line}
use Rattle.plan_types.specs.Sound.{IsSoundPlan}
use Rattle.conn_model.specs.declared.plain.Version.{Version}
use Rattle.conn_model.specs.Words.{Rise}
use Rattle.conn_model.specs.History.{with_offer}
use Rattle.conn_model.specs.Servers.{cursor_after, cursor_at, with_cursor}
use Rattle.conn_model.proofs.Lists.{all-append, all-at, all-map, all-more, rise-map}
use Rattle.conn_versions.specs.declared.picks.BackendPicks.{BackendPicks}
use Rattle.conn_versions.specs.declared.versions.VersionPicks.{VersionPicks}
use Rattle.conn_versions.specs.Versions.{AreSound}
use Rattle.conn_versions.specs.Slots.{AreNamed, AreSlots, KeepsPlaces}
use Rattle.conn_versions.specs.Picks.{IsTied}
use Rattle.conn_versions.specs.Kept.{AreCounted, AreKept, AreTied, IsKept}
use Rattle.list_core.proofs.Items.{get-other, get-set, length-set, one_item, push-cases, set-cases}
use Rattle.conn_versions.proofs.Identities.{identity-changed, still_named, still_slots}

-- One backend of a version.

pub tied_moved : (backends : List Backend) (cursors : List (Option Place)) (own : List BackendPicks) (number : ℕ) (backend : Backend) (cursor : Option Place) (next : BackendPicks) →
    AreTied backends cursors own → slice_get backends number ≡ Some backend → IsTied backend cursor next → AreTied backends (slice_set cursors number cursor) (slice_set own number next)
tied_moved backends cursors own number backend cursor next tied there is = record {
  one_each = length-set cursors number cursor ∙ tied.one_each;
  many = length-set own number next ∙ tied.many;
  each = λ n other picks at found. by n other picks at (set-cases own number n next picks found);
}
  where
    within : number < length cursors
    within = let less : number < length backends = slice_get_within backends number backend there in let same = tied.one_each in omega (arith, less, same)

    by : (n : ℕ) (other : Backend) (picks : BackendPicks) → slice_get backends n ≡ Some other → ((n ≡ number) × (next ≡ picks)) ⊎ ((n ≢ number) × (slice_get own n ≡ Some picks)) →
        IsTied other (cursor_at (slice_set cursors number cursor) n) picks
    by n other picks at (inl here) =
        let same : backend ≡ other = one_item (slice_get backends number) backend other there (ap (slice_get backends) (sym here.0) ∙ at) in
        let moved : cursor ≡ cursor_at (slice_set cursors number cursor) n =
        sym (ap (cursor_at (slice_set cursors number cursor)) here.0 ∙ ap (option_and_then (λ c. c)) (get-set cursors number cursor within)) in
        subst (λ b. IsTied b (cursor_at (slice_set cursors number cursor) n) picks) same
        (subst (λ c. IsTied backend c picks) moved (subst (λ p. IsTied backend cursor p) here.1 is))
    by n other picks at (inr there) =
        subst (λ c. IsTied other c picks) (sym (ap (option_and_then (λ c. c)) (get-other cursors number n cursor there.0))) (tied.each n other picks at there.1)

pub counted_moved : (counts : List Count) (backends : List Backend) (own : List BackendPicks) (number : ℕ) (old next : BackendPicks) → slice_get own number ≡ Some old →
    next.slots ≡ old.slots → AreCounted counts backends own → AreCounted counts backends (slice_set own number next)
counted_moved counts backends own number old next there same counted = λ n backend picks at found. by n backend picks at (set-cases own number n next picks found)
  where
    by : (n : ℕ) (backend : Backend) (picks : BackendPicks) → slice_get backends n ≡ Some backend → ((n ≡ number) × (next ≡ picks)) ⊎ ((n ≢ number) × (slice_get own n ≡ Some picks)) →
        AreSlots counts backend picks.slots
    by n backend picks at (inl here) =
        subst (AreSlots counts backend) (sym same ∙ ap (λ p. p.slots) here.1) (counted n backend old at (ap (slice_get own) here.0 ∙ there))
    by n backend picks at (inr other) = counted n backend picks at other.1

pub cursor_moved : (backends : List Backend) (number server : ℕ) (cursors : List (Option Place)) (backend : Backend) → slice_get backends number ≡ Some backend →
    with_cursor backends number server cursors ≡ slice_set cursors number (cursor_after backend server (cursor_at cursors number))
cursor_moved backends number server cursors backend there = rw there refl

-- One version of those that are kept.

keeps_number : (number line server : ℕ) (version : Version) → (with_offer number line server version).number ≡ version.number
keeps_number number line server version = by (version.number == number) refl
  where
    by : (b : Bool) → (version.number == number) ≡ b → (with_offer number line server version).number ≡ version.number
    by true e = rw e refl
    by false e = rw e refl

keeps_plan : (number line server : ℕ) (version : Version) → (with_offer number line server version).plan ≡ version.plan
keeps_plan number line server version = by (version.number == number) refl
  where
    by : (b : Bool) → (version.number == number) ≡ b → (with_offer number line server version).plan ≡ version.plan
    by true e = rw e refl
    by false e = rw e refl

-- others have other numbers
pub one_version : (number line server : ℕ) (versions : List Version) (n : ℕ) (version : Version) → Rise (λ v. v.number) versions → slice_get versions n ≡ Some version → version.number ≡ number →
    map (with_offer number line server) versions ≡ slice_set versions n (with_offer number line server version)
one_version number line server [] n version rise there is = absurd (let wrong : None ≡ Some version = there in cc)
one_version number line server (v ∷ versions) zero version rise there is =
    let same : v ≡ version = one_item (Some v) v version refl there in
    ap (λ u. with_offer number line server u ∷ map (with_offer number line server) versions) same
    ∙ ap (λ us. with_offer number line server version ∷ us) (rest versions (subst (λ m. AllByRecursion (λ u. m < u.number) versions) (ap (λ u. u.number) same ∙ is) rise.0))
  where
    rest : (vs : List Version) → AllByRecursion (λ u. number < u.number) vs → map (with_offer number line server) vs ≡ vs
    rest [] above = refl
    rest (u ∷ vs) above =
        let less : number < u.number = above.0 in
        let differs : (u.number == number) ≡ false = grind (arith, nat_tests, less) in
        rw differs (ap (λ ws. u ∷ ws) (rest vs above.1))
one_version number line server (v ∷ versions) (suc n) version rise there is =
    let less : v.number < version.number = all-at (λ u. v.number < u.number) versions n version rise.0 there in
    let differs : (v.number == number) ≡ false = grind (arith, nat_tests, less, is) in
    rw differs (ap (λ us. v ∷ us) (one_version number line server versions n version rise.1 there is))

pub offered : (number line server : ℕ) (version : Version) (place : ℕ) → version.number ≡ number → position (has_line line) version.plan.backends ≡ Some place →
    with_offer number line server version ≡ record version { cursors = with_cursor version.plan.backends place server version.cursors }
offered number line server version place is there = let own : (version.number == number) ≡ true = eq-eqb version.number number is in rw (own, there) refl

pub kept_moved : (number line server : ℕ) (counts : List Count) (versions : List Version) (all : List VersionPicks) (n : ℕ) (version : Version) (next : VersionPicks) → AreKept counts versions all →
    slice_get versions n ≡ Some version → version.number ≡ number → IsKept counts (with_offer number line server version) next.backends.items →
    AreKept counts (slice_set versions n (with_offer number line server version)) (slice_set all n next)
kept_moved number line server counts versions all n version next kept there is own = record {
  apart = kept.apart;
  rise = subst (Rise (λ v. v.number)) same (rise-map (λ v. v.number) change (keeps_number number line server) versions kept.rise);
  sound = subst AreSound same (all-map (λ v. IsSoundPlan v.plan) change versions
      (all-more (λ v. IsSoundPlan v.plan) (λ v. IsSoundPlan (change v).plan) versions (λ v sound. subst IsSoundPlan (sym (keeps_plan number line server v)) sound) kept.sound));
  many = length-set all n next ∙ kept.many ∙ sym (length-set versions n (change version));
  each = λ m other picks at found. by m other picks (set-cases versions n m (change version) other at) (set-cases all n m next picks found);
}
  where
    change : Version → Version
    change = with_offer number line server

    same : map (with_offer number line server) versions ≡ slice_set versions n (with_offer number line server version)
    same = one_version number line server versions n version kept.rise there is

    by : (m : ℕ) (other : Version) (picks : VersionPicks) → ((m ≡ n) × (with_offer number line server version ≡ other)) ⊎ ((m ≢ n) × (slice_get versions m ≡ Some other)) →
        ((m ≡ n) × (next ≡ picks)) ⊎ ((m ≢ n) × (slice_get all m ≡ Some picks)) → IsKept counts other picks.backends.items
    by m other picks (inl here) (inl found) = subst (λ v. IsKept counts v picks.backends.items) here.1 (subst (λ p. IsKept counts (with_offer number line server version) p.backends.items) found.1 own)
    by m other picks (inl here) (inr found) = absurd (found.0 here.0)
    by m other picks (inr at) (inl found) = absurd (at.0 found.0)
    by m other picks (inr at) (inr found) = kept.each m other picks at.1 found.1

-- Counts of connections that change.

pub still_kept : (f : ℕ → ℕ) (place : ℕ) (counts : List Count) (versions : List Version) (all : List VersionPicks) → AreKept counts versions all → AreKept (with_open f place counts) versions all
still_kept f place counts versions all kept = record {
  apart = differ-changed f place counts kept.apart;
  rise = kept.rise;
  sound = kept.sound;
  many = kept.many;
  each = λ n version own at found.
      let is = kept.each n version own at found in
      record {
        tied = is.tied;
        counted = λ m backend picks there picked.
            let slots = is.counted m backend picks there picked in
            record { many = slots.many; each = λ k server ix has seat. identity-changed f place counts ix.place ∙ slots.each k server ix has seat };
      };
}

-- A plan of which nothing was used.

abbrev pub unused : Backend → Option Place
unused backend = None

no_cursor : (backends : List Backend) (n : ℕ) → cursor_at (map unused backends) n ≡ None
no_cursor [] n = refl
no_cursor (backend ∷ backends) zero = refl
no_cursor (backend ∷ backends) (suc n) = no_cursor backends n

no_cursors : (backends : List Backend) → length (map unused backends) ≡ length backends
no_cursors [] = refl
no_cursors (backend ∷ backends) = cc (no_cursors backends)

-- each backend is tied where nothing was used
abbrev pub AreNew : List Backend → List BackendPicks → Type 0
AreNew backends own = (n : ℕ) (backend : Backend) (picks : BackendPicks) → slice_get backends n ≡ Some backend → slice_get own n ≡ Some picks → IsTied backend None picks

pub new_tied : (backends : List Backend) (own : List BackendPicks) → length own ≡ length backends → AreNew backends own → AreTied backends (map unused backends) own
new_tied backends own many new' = record {
  one_each = no_cursors backends;
  many = many;
  each = λ n backend picks at found. subst (λ c. IsTied backend c picks) (sym (no_cursor backends n)) (new' n backend picks at found);
}

pub one_more_new : (backends : List Backend) (own : List BackendPicks) (backend : Backend) (next : BackendPicks) → AreNew backends own → slice_get backends (length own) ≡ Some backend →
    IsTied backend None next → AreNew backends (own ++ next ∷ [])
one_more_new backends own backend next new' there is = λ n other picks at found. by n other picks at (push-cases own next n picks found)
  where
    by : (n : ℕ) (other : Backend) (picks : BackendPicks) → slice_get backends n ≡ Some other → (slice_get own n ≡ Some picks) ⊎ ((n ≡ length own) × (next ≡ picks)) → IsTied other None picks
    by n other picks at (inl before) = new' n other picks at before
    by n other picks at (inr last) =
        let same : backend ≡ other = one_item (slice_get backends (length own)) backend other there (ap (slice_get backends) (sym last.0) ∙ at) in
        subst (λ b. IsTied b None picks) same (subst (IsTied backend None) last.1 is)

pub one_more_counted : (backends : List Backend) (own : List BackendPicks) (old : List Count) (before : List Bool) (later : List Count) (after : List Bool) (backend : Backend) (next : BackendPicks) →
    KeepsPlaces old before later after → AllByRecursion (λ picks. AreNamed before picks.slots) own → AreCounted old backends own → slice_get backends (length own) ≡ Some backend →
    AreSlots later backend next.slots → AreCounted later backends (own ++ next ∷ [])
one_more_counted backends own old before later after backend next keeps named counted there is = λ n other picks at found. by n other picks at (push-cases own next n picks found)
  where
    by : (n : ℕ) (other : Backend) (picks : BackendPicks) → slice_get backends n ≡ Some other → (slice_get own n ≡ Some picks) ⊎ ((n ≡ length own) × (next ≡ picks)) →
        AreSlots later other picks.slots
    by n other picks at (inl earlier) =
        still_slots other picks.slots old before later after keeps (all-at (λ p. AreNamed before p.slots) own n picks named earlier) (counted n other picks at earlier)
    by n other picks at (inr last) =
        let same : backend ≡ other = one_item (slice_get backends (length own)) backend other there (ap (slice_get backends) (sym last.0) ∙ at) in
        subst (λ b. AreSlots later b picks.slots) same (subst (λ p. AreSlots later backend p.slots) last.1 is)

pub one_more_named : (own : List BackendPicks) (old : List Count) (before : List Bool) (later : List Count) (after : List Bool) (next : BackendPicks) → KeepsPlaces old before later after →
    AllByRecursion (λ picks. AreNamed before picks.slots) own → AreNamed after next.slots → AllByRecursion (λ picks. AreNamed after picks.slots) (own ++ next ∷ [])
one_more_named own old before later after next keeps named is =
    all-append (λ picks. AreNamed after picks.slots) own (next ∷ [])
    (all-more (λ picks. AreNamed before picks.slots) (λ picks. AreNamed after picks.slots) own (λ picks each. still_named picks.slots old before later after keeps each) named) (is, tt)

pub new_kept : (counts : List Count) (version : Version) (own : VersionPicks) → IdentitiesDiffer counts → IsSoundPlan version.plan → IsKept counts version own.backends.items →
    AreKept counts (version ∷ []) (own ∷ [])
new_kept counts version own apart sound is = record {
  apart = apart;
  rise = (tt, tt);
  sound = (sound, tt);
  many = refl;
  each = λ n other picks at found. by n other picks at found;
}
  where
    by : (n : ℕ) (other : Version) (picks : VersionPicks) → slice_get (version ∷ []) n ≡ Some other → slice_get (own ∷ []) n ≡ Some picks → IsKept counts other picks.backends.items
    by zero other picks at found =
        subst (λ v. IsKept counts v picks.backends.items) (one_item (Some version) version other refl at)
        (subst (λ p. IsKept counts version p.backends.items) (one_item (Some own) own picks refl found) is)
    by (suc n) other picks at found = absurd (let wrong : None ≡ Some other = at in cc)
