-- What changes once a version is added, or forgotten.
use Rattle.std.proofs.Common.{◌≡◌, ℕ, zero, suc, ◌+◌, ◌<◌, Bool, true, false, List, [], ◌∷◌, ◌++◌, length, length-append, Some, None, refl, sym, ap, ◌∙◌, arith, subst, inl, inr, ◌⊎◌}
use Rattle.std.specs.Prelude.{filter, find, not, position, slice_get, ◌==◌}
use Rattle.std.specs.List.{remove, AllByRecursion}
use Rattle.std.proofs.lemmas.Bool.{eq-eqb, eqb-true}
use Rattle.std.proofs.lemmas.Bool.Decides.{nat_tests}
use Rattle.std.proofs.lemmas.List.Edits.{length-remove}
use Rattle.std.proofs.lemmas.Option.{slice_get_within}
use Rattle.slot_core.specs.declared.slots.Count.{Count}
use Rattle.slot_core.specs.Counts.{identity_at, open_at}
use Rattle.list_core.proofs.PlaceLemmas.{find-passes}
use Rattle.plan_types.specs.Sound.{IsSoundPlan}
use Rattle.conn_model.specs.declared.plain.Version.{Version}
use Rattle.conn_model.specs.Words.{Rise}
use Rattle.conn_model.proofs.Lists.{all-append, all-at, all-filter, filter-all, found_there, position_within, rise-filter}
use Rattle.conn_versions.specs.declared.versions.VersionPicks.{VersionPicks}
use Rattle.conn_versions.specs.Versions.{has_number}
use Rattle.conn_versions.specs.Slots.{KeepsPlaces}
use Rattle.conn_versions.specs.Kept.{AreAllNoted, AreKept, IsKept}
use Rattle.list_core.proofs.Items.{one_item, push-cases, within}
use Rattle.conn_versions.proofs.Identities.{noted_named, still_slots}

-- Places of servers that are added.

still_is : (old : List Count) (before : List Bool) (later : List Count) (after : List Bool) (version : Version) (own : VersionPicks) → length before ≡ length old →
    AreAllNoted before own.backends.items → KeepsPlaces old before later after → IsKept old version own.backends.items → IsKept later version own.backends.items
still_is old before later after version own many noted keeps is = record {
  tied = is.tied;
  counted = λ n backend picks at found.
      let slots = is.counted n backend picks at found in
      still_slots backend picks.slots old before later after keeps (noted_named backend picks.slots old before many (noted n picks found) slots) slots;
}

-- what each version names stays
pub kept_adding : (old : List Count) (before : List Bool) (later : List Count) (after : List Bool) (versions : List Version) (all : List VersionPicks) → length before ≡ length old →
    ((n : ℕ) (own : VersionPicks) → slice_get all n ≡ Some own → AreAllNoted before own.backends.items) → KeepsPlaces old before later after → AreKept old versions all → AreKept later versions all
kept_adding old before later after versions all many noted keeps kept = record {
  apart = keeps.apart;
  rise = kept.rise;
  sound = kept.sound;
  many = kept.many;
  each = λ n version own at found. still_is old before later after version own many (noted n own found) keeps (kept.each n version own at found);
}

pub kept_open : (old : List Count) (before : List Bool) (later : List Count) (after : List Bool) (counts : List Count) → KeepsPlaces old before later after → old ≡ counts →
    (place : ℕ) → 0 < open_at place counts → identity_at place later ≡ identity_at place counts
kept_open old before later after counts keeps same place some = keeps.open_kept place (subst (λ k. 0 < open_at place k) (sym same) some) ∙ ap (identity_at place) same

-- A version is added.

rise-push : (versions : List Version) (version : Version) → Rise (λ v. v.number) versions → AllByRecursion (λ v. v.number < version.number) versions → Rise (λ v. v.number) (versions ++ version ∷ [])
rise-push [] version rise below = (tt, tt)
rise-push (v ∷ versions) version rise below = (all-append (λ w. v.number < w.number) versions (version ∷ []) rise.0 (below.0, tt), rise-push versions version rise.1 below.1)

pub kept_with : (counts : List Count) (versions : List Version) (all : List VersionPicks) (version : Version) (own : VersionPicks) → AreKept counts versions all →
    AllByRecursion (λ v. v.number < version.number) versions → IsSoundPlan version.plan → IsKept counts version own.backends.items → AreKept counts (versions ++ version ∷ []) (all ++ own ∷ [])
kept_with counts versions all version own kept below sound is = record {
  apart = kept.apart;
  rise = rise-push versions version kept.rise below;
  sound = all-append (λ v. IsSoundPlan v.plan) versions (version ∷ []) kept.sound (sound, tt);
  many = length-append all (own ∷ []) ∙ ap (λ n. n + 1) kept.many ∙ sym (length-append versions (version ∷ []));
  each = λ n other picks at found. by n other picks (push-cases versions version n other at) (push-cases all own n picks found);
}
  where
    by : (n : ℕ) (other : Version) (picks : VersionPicks) → (slice_get versions n ≡ Some other) ⊎ ((n ≡ length versions) × (version ≡ other)) →
        (slice_get all n ≡ Some picks) ⊎ ((n ≡ length all) × (own ≡ picks)) → IsKept counts other picks.backends.items
    by n other picks (inl at) (inl found) = kept.each n other picks at found
    by n other picks (inl at) (inr last) =
        let less : n < length versions = slice_get_within versions n other at in
        let many = kept.many in
        let end = last.0 in
        absurd (omega (arith, less, many, end))
    by n other picks (inr last) (inl found) =
        let less : n < length all = slice_get_within all n picks found in
        let many = kept.many in
        let end = last.0 in
        absurd (omega (arith, less, many, end))
    by n other picks (inr here) (inr there) = subst (λ v. IsKept counts v picks.backends.items) here.1 (subst (λ p. IsKept counts version p.backends.items) there.1 is)

-- A version is forgotten.

-- where the item at a place was before one was taken out
abbrev earlier_place : ℕ → ℕ → ℕ
earlier_place zero m = suc m
earlier_place (suc n) zero = zero
earlier_place (suc n) (suc m) = suc (earlier_place n m)

get-removed : {X : Type 0} (xs : List X) (n m : ℕ) → slice_get (remove xs n) m ≡ slice_get xs (earlier_place n m)
get-removed [] zero m = refl
get-removed [] (suc n) m = refl
get-removed (x ∷ xs) zero m = refl
get-removed (x ∷ xs) (suc n) zero = refl
get-removed (x ∷ xs) (suc n) (suc m) = get-removed xs n m

abbrev pub has_other : ℕ → Version → Bool
has_other number version = not (version.number == number)

-- others have other numbers
one_removed : (number : ℕ) (versions : List Version) (n : ℕ) (version : Version) → Rise (λ v. v.number) versions → slice_get versions n ≡ Some version → version.number ≡ number →
    filter (has_other number) versions ≡ remove versions n
one_removed number [] n version rise there is = absurd (let wrong : None ≡ Some version = there in cc)
one_removed number (v ∷ versions) zero version rise there is =
    let same : v ≡ version = one_item (Some v) v version refl there in
    let own : (v.number == number) ≡ true = eq-eqb v.number number (ap (λ u. u.number) same ∙ is) in
    rw own (filter-all (has_other number) versions (rest versions (subst (λ m. AllByRecursion (λ u. m < u.number) versions) (ap (λ u. u.number) same ∙ is) rise.0)))
  where
    rest : (vs : List Version) → AllByRecursion (λ u. number < u.number) vs → AllByRecursion (λ u. has_other number u ≡ true) vs
    rest [] above = tt
    rest (u ∷ vs) above =
        let less : number < u.number = above.0 in
        let differs : (u.number == number) ≡ false = grind (arith, nat_tests, less) in
        (ap not differs, rest vs above.1)
one_removed number (v ∷ versions) (suc n) version rise there is =
    let less : v.number < version.number = all-at (λ u. v.number < u.number) versions n version rise.0 there in
    let differs : (v.number == number) ≡ false = grind (arith, nat_tests, less, is) in
    rw differs (ap (λ us. v ∷ us) (one_removed number versions n version rise.1 there is))

pub none_removed : (number : ℕ) (versions : List Version) → find (has_number number) versions ≡ None → filter (has_other number) versions ≡ versions
none_removed number [] none = refl
none_removed number (v ∷ versions) none = by (v.number == number) refl (λ later. none_removed number versions later)
  where
    by : (b : Bool) → (v.number == number) ≡ b → (find (has_number number) versions ≡ None → filter (has_other number) versions ≡ versions) → filter (has_other number) (v ∷ versions) ≡ v ∷ versions
    by true e more = absurd (let wrong : Some v ≡ None = rw e at none in cc)
    by false e more = rw e (ap (λ vs. v ∷ vs) (more (rw e at none)))

-- the version that is found at a place
pub version_found : (number : ℕ) (versions : List Version) (n : ℕ) → position (has_number number) versions ≡ Some n → (version : Version) × (slice_get versions n ≡ Some version) × (version.number ≡ number)
version_found number versions n is =
    let there = within versions n (position_within (has_number number) versions n is) in
    (there.0, there.1, eqb-true there.0.number number (find-passes (has_number number) versions there.0 (found_there (has_number number) versions n is ∙ there.1)))

pub removed : (number : ℕ) (versions : List Version) (n : ℕ) → Rise (λ v. v.number) versions → position (has_number number) versions ≡ Some n → filter (has_other number) versions ≡ remove versions n
removed number versions n rise is = let found = version_found number versions n is in one_removed number versions n found.0 rise found.1 found.2

pub kept_without : (number : ℕ) (counts : List Count) (versions : List Version) (all : List VersionPicks) (n : ℕ) → AreKept counts versions all → position (has_number number) versions ≡ Some n →
    AreKept counts (remove versions n) (remove all n)
kept_without number counts versions all n kept is = record {
  apart = kept.apart;
  rise = subst (Rise (λ v. v.number)) same (rise-filter (λ v. v.number) (has_other number) versions kept.rise);
  sound = subst (AllByRecursion (λ v. IsSoundPlan v.plan)) same (all-filter (λ v. IsSoundPlan v.plan) (has_other number) versions kept.sound);
  many = fewer;
  each = λ m other picks at found. kept.each (earlier_place n m) other picks (sym (get-removed versions n m) ∙ at) (sym (get-removed all n m) ∙ found);
}
  where
    same : filter (has_other number) versions ≡ remove versions n
    same = removed number versions n kept.rise is

    fewer : length (remove all n) ≡ length (remove versions n)
    fewer =
        let less : n < length versions = position_within (has_number number) versions n is in
        let many = kept.many in
        let one = length-remove versions n less in
        let other = length-remove all n (omega (arith, less, many)) in
        omega (arith, one, other, many)
