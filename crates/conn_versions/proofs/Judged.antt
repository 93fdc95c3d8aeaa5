-- How many open connections the versions judge, as they change.
use Rattle.std.proofs.Common.{◌≡◌, ℕ, zero, suc, ◌+◌, ◌<◌, ◌≤◌, ◌⊎◌, Bool, true, false, List, [], ◌∷◌, ◌++◌, length, get_or, Option, Some, None, refl, sym, ap, ◌∙◌, arith, subst, inl, inr}
use Rattle.std.specs.Prelude.{filter, not, position, slice_get, slice_set, IsSome, ◌==◌, ◌≢◌, if◌then◌else◌}
use Rattle.std.specs.List.{remove, AllByRecursion}
use Rattle.std.specs.Option.{is_some}
use Rattle.std.proofs.lemmas.Bool.{false≢true, eq-eqb, eqb-true}
use Rattle.std.proofs.lemmas.Bool.Decides.{nat_tests}
use Rattle.std.proofs.lemmas.Option.{slice_get_read}
use Rattle.slot_core.specs.declared.slots.Count.{Count}
use Rattle.conn_model.specs.declared.plain.Version.{Version}
use Rattle.conn_model.specs.Answer.{version_at}
use Rattle.conn_model.specs.Words.{newest, Rise}
use Rattle.conn_model.proofs.Lists.{all-at, nowhere, position_within}
use Rattle.conn_model.proofs.Versions.{newest-some}
use Rattle.conn_versions.specs.declared.versions.VersionPicks.{VersionPicks}
use Rattle.conn_versions.specs.Judged.{judged_by, judged_in}
use Rattle.conn_versions.specs.Kept.{connections_of, AreKept, IsKept}
use Rattle.conn_versions.specs.Versions.{has_number}
use Rattle.conn_versions.proofs.Changes.{has_other, version_found}
use Rattle.list_core.proofs.Items.{length-set, one_item, set-cases}

-- The version at a place judges what is counted there.

pub judged-at : (versions : List Version) (all : List VersionPicks) (n : ℕ) (version : Version) (own : VersionPicks) → Rise (λ v. v.number) versions → slice_get versions n ≡ Some version →
    slice_get all n ≡ Some own → judged_in versions (connections_of all) version.number ≡ own.connections
judged-at [] all n version own rise there found = absurd (let wrong : None ≡ Some version = there in cc)
judged-at (v ∷ versions) [] n version own rise there found = absurd (let wrong : None ≡ Some own = found in cc)
judged-at (v ∷ versions) (o ∷ all) zero version own rise there found =
    let same : v ≡ version = one_item (Some v) v version refl there in
    let it : o ≡ own = one_item (Some o) o own refl found in
    let is : (v.number == version.number) ≡ true = eq-eqb v.number version.number (ap (λ u. u.number) same) in
    rw is (ap (λ p. p.connections) it)
judged-at (v ∷ versions) (o ∷ all) (suc n) version own rise there found =
    let less : v.number < version.number = all-at (λ u. v.number < u.number) versions n version rise.0 there in
    let differs : (v.number == version.number) ≡ false = grind (arith, nat_tests, less) in
    rw differs (judged-at versions all n version own rise.1 there found)

-- and once another number is counted there
judged-set : (versions : List Version) (all : List VersionPicks) (n : ℕ) (version : Version) (own next : VersionPicks) → Rise (λ v. v.number) versions → slice_get versions n ≡ Some version →
    slice_get all n ≡ Some own → (number : ℕ) →
    judged_in versions (connections_of (slice_set all n next)) number ≡ (if version.number == number then next.connections else judged_in versions (connections_of all) number)
judged-set [] all n version own next rise there found number = absurd (let wrong : None ≡ Some version = there in cc)
judged-set (v ∷ versions) [] n version own next rise there found number = absurd (let wrong : None ≡ Some own = found in cc)
judged-set (v ∷ versions) (o ∷ all) zero version own next rise there found number =
    let same : v ≡ version = one_item (Some v) v version refl there in
    by (v.number == number) refl (ap (λ u. u.number == number) (sym same))
  where
    by : (b : Bool) → (v.number == number) ≡ b → (version.number == number) ≡ (v.number == number) →
        judged_in (v ∷ versions) (connections_of (next ∷ all)) number ≡ (if version.number == number then next.connections else judged_in (v ∷ versions) (connections_of (o ∷ all)) number)
    by true e is = rw (is, e) refl
    by false e is = rw (is, e) refl
judged-set (v ∷ versions) (o ∷ all) (suc n) version own next rise there found number =
    by (v.number == number) refl (judged-set versions all n version own next rise.1 there found number)
  where
    less : v.number < version.number
    less = all-at (λ u. v.number < u.number) versions n version rise.0 there

    by : (b : Bool) → (v.number == number) ≡ b →
        judged_in versions (connections_of (slice_set all n next)) number ≡ (if version.number == number then next.connections else judged_in versions (connections_of all) number) →
        judged_in (v ∷ versions) (connections_of (o ∷ slice_set all n next)) number ≡ (if version.number == number then next.connections else judged_in (v ∷ versions) (connections_of (o ∷ all)) number)
    by true e more =
        let is : v.number ≡ number = eqb-true v.number number e in
        let below = less in
        let differs : (version.number == number) ≡ false = grind (arith, nat_tests, below, is) in
        rw (differs, e) refl
    by false e more = rw e more

-- A connection more, and one less.

module _ (versions : List Version) (all : List VersionPicks) (n : ℕ) (version : Version) (own next : VersionPicks) (rise : Rise (λ v. v.number) versions) (there : slice_get versions n ≡ Some version)
    (found : slice_get all n ≡ Some own) where
  here : (number : ℕ) → (version.number == number) ≡ true → judged_in versions (connections_of all) number ≡ own.connections
  here number is = ap (judged_in versions (connections_of all)) (sym (eqb-true version.number number is)) ∙ judged-at versions all n version own rise there found

  pub judged-more : next.connections ≡ own.connections + 1 → (number : ℕ) →
      judged_in versions (connections_of (slice_set all n next)) number ≡ judged_in versions (connections_of all) number + judged_by number version.number
  judged-more more number = judged-set versions all n version own next rise there found number ∙ by (version.number == number) refl
    where
      by : (b : Bool) → (version.number == number) ≡ b →
          (if version.number == number then next.connections else judged_in versions (connections_of all) number) ≡ judged_in versions (connections_of all) number + judged_by number version.number
      by true e = let was = here number e in rw e (omega (arith, was, more))
      by false e = rw e (omega arith)

  pub judged-less : next.connections + 1 ≡ own.connections → (number : ℕ) →
      judged_in versions (connections_of (slice_set all n next)) number + judged_by number version.number ≡ judged_in versions (connections_of all) number
  judged-less less number = ap (λ m. m + judged_by number version.number) (judged-set versions all n version own next rise there found number) ∙ by (version.number == number) refl
    where
      by : (b : Bool) → (version.number == number) ≡ b →
          (if version.number == number then next.connections else judged_in versions (connections_of all) number) + judged_by number version.number ≡ judged_in versions (connections_of all) number
      by true e = let was = here number e in rw e (omega (arith, was, less))
      by false e = rw e (omega arith)

-- Versions that are not kept.

pub judged-none : (versions : List Version) (judged : List ℕ) (number : ℕ) → version_at versions number ≡ None → judged_in versions judged number ≡ 0
judged-none [] judged number none = refl
judged-none (v ∷ versions) [] number none = refl
judged-none (v ∷ versions) (own ∷ judged) number none = by (v.number == number) refl (λ later. judged-none versions judged number later)
  where
    by : (b : Bool) → (v.number == number) ≡ b → (version_at versions number ≡ None → judged_in versions judged number ≡ 0) → judged_in (v ∷ versions) (own ∷ judged) number ≡ 0
    by true e more = absurd (let wrong : Some v ≡ None = rw e at none in cc)
    by false e more = rw e (more (rw e at none))

-- they are others than those that are kept
pub not_kept : (versions : List Version) (number other : ℕ) → version_at versions number ≡ None → IsSome (version_at versions other) → number ≢ other
not_kept versions number other none some same = false≢true (ap is_some (sym none ∙ ap (version_at versions) same) ∙ some)

pub judged-other : (number version : ℕ) → version ≢ number → judged_by number version ≡ 0
judged-other number version differs = by (version == number) refl
  where
    by : (b : Bool) → (version == number) ≡ b → judged_by number version ≡ 0
    by true e = absurd (differs (eqb-true version number e))
    by false e = rw e refl

-- a number above all
pub none-above : (versions : List Version) (number : ℕ) → AllByRecursion (λ v. v.number < number) versions → version_at versions number ≡ None
none-above [] number below = refl
none-above (v ∷ versions) number below =
    let less : v.number < number = below.0 in
    let differs : (v.number == number) ≡ false = grind (arith, nat_tests, less) in
    rw differs (none-above versions number below.1)

-- A version that judges nobody is added.

pub judged-push : (versions : List Version) (all : List VersionPicks) (version : Version) (own : VersionPicks) → length all ≡ length versions → own.connections ≡ 0 → (number : ℕ) →
    judged_in (versions ++ version ∷ []) (connections_of (all ++ own ∷ [])) number ≡ judged_in versions (connections_of all) number
judged-push [] [] version own many none number = by (version.number == number) refl
  where
    by : (b : Bool) → (version.number == number) ≡ b → judged_in (version ∷ []) (connections_of (own ∷ [])) number ≡ 0
    by true e = rw e none
    by false e = rw e refl
judged-push [] (o ∷ all) version own many none number = absurd (omega (arith, many))
judged-push (v ∷ versions) [] version own many none number = absurd (omega (arith, many))
judged-push (v ∷ versions) (o ∷ all) version own many none number =
    let fewer : length all ≡ length versions = omega (arith, many) in
    ap (λ m. if v.number == number then o.connections else m) (judged-push versions all version own fewer none number)

-- A version is forgotten.

pub judged-removed : (versions : List Version) (all : List VersionPicks) (n : ℕ) (version : Version) (number : ℕ) → length all ≡ length versions → slice_get versions n ≡ Some version →
    (number == version.number) ≡ false → judged_in (remove versions n) (connections_of (remove all n)) number ≡ judged_in versions (connections_of all) number
judged-removed [] all n version number many there other = absurd (let wrong : None ≡ Some version = there in cc)
judged-removed (v ∷ versions) [] n version number many there other = absurd (omega (arith, many))
judged-removed (v ∷ versions) (o ∷ all) zero version number many there other =
    let same : v.number ≡ version.number = ap (λ u. u.number) (one_item (Some v) v version refl there) in
    let differs : (v.number == number) ≡ false = grind (arith, nat_tests, other, same) in
    rw differs refl
judged-removed (v ∷ versions) (o ∷ all) (suc n) version number many there other =
    let fewer : length all ≡ length versions = omega (arith, many) in
    ap (λ m. if v.number == number then o.connections else m) (judged-removed versions all n version number fewer there other)

-- The cursors of a version move.

pub judged-moved : (versions : List Version) (all : List VersionPicks) (n : ℕ) (version moved : Version) (own next : VersionPicks) → slice_get versions n ≡ Some version → slice_get all n ≡ Some own →
    moved.number ≡ version.number → next.connections ≡ own.connections → (number : ℕ) →
    judged_in (slice_set versions n moved) (connections_of (slice_set all n next)) number ≡ judged_in versions (connections_of all) number
judged-moved [] all n version moved own next there found same count number = refl
judged-moved (v ∷ versions) [] n version moved own next there found same count number = absurd (let wrong : None ≡ Some own = found in cc)
judged-moved (v ∷ versions) (o ∷ all) zero version moved own next there found same count number =
    let number_is : moved.number ≡ v.number = same ∙ ap (λ u. u.number) (sym (one_item (Some v) v version refl there)) in
    let count_is : next.connections ≡ o.connections = count ∙ ap (λ p. p.connections) (sym (one_item (Some o) o own refl found)) in
    ap (λ m. if m == number then next.connections else judged_in versions (connections_of all) number) number_is
    ∙ ap (λ m. if v.number == number then m else judged_in versions (connections_of all) number) count_is
judged-moved (v ∷ versions) (o ∷ all) (suc n) version moved own next there found same count number =
    ap (λ m. if v.number == number then o.connections else m) (judged-moved versions all n version moved own next there found same count number)

-- What is counted of a version says nothing of its picks.

pub kept_counting : (counts : List Count) (versions : List Version) (all : List VersionPicks) (n : ℕ) (own next : VersionPicks) → slice_get all n ≡ Some own → next.backends ≡ own.backends →
    AreKept counts versions all → AreKept counts versions (slice_set all n next)
kept_counting counts versions all n own next there same kept = record {
  apart = kept.apart;
  rise = kept.rise;
  sound = kept.sound;
  many = length-set all n next ∙ kept.many;
  each = λ m version picks at found. by m version picks at (set-cases all n m next picks found);
}
  where
    by : (m : ℕ) (version : Version) (picks : VersionPicks) → slice_get versions m ≡ Some version → ((m ≡ n) × (next ≡ picks)) ⊎ ((m ≢ n) × (slice_get all m ≡ Some picks)) → IsKept counts version picks.backends.items
    by m version picks at (inl here) =
        subst (λ bs. IsKept counts version bs.items) (sym same ∙ ap (λ p. p.backends) here.1) (kept.each m version own at (ap (slice_get all) here.0 ∙ there))
    by m version picks at (inr other) = kept.each m version picks at other.1

-- what is kept is kept where there are more
pub kept_later : (v : Version) (versions : List Version) (number : ℕ) → IsSome (version_at versions number) → IsSome (version_at (v ∷ versions) number)
kept_later v versions number some = by (v.number == number) refl
  where
    by : (b : Bool) → (v.number == number) ≡ b → IsSome (version_at (v ∷ versions) number)
    by true e = rw e refl
    by false e = rw e some

-- a version at a place is kept
pub place_kept : (versions : List Version) (n : ℕ) (version : Version) → slice_get versions n ≡ Some version → IsSome (version_at versions version.number)
place_kept [] n version there = absurd (let wrong : None ≡ Some version = there in cc)
place_kept (v ∷ versions) zero version there =
    let is : (v.number == version.number) ≡ true = eq-eqb v.number version.number (ap (λ u. u.number) (one_item (Some v) v version refl there)) in
    rw is refl
place_kept (v ∷ versions) (suc n) version there = kept_later v versions version.number (place_kept versions n version there)

-- a version that is found, and what is counted of it
pub record FoundCount (versions : List Version) (all : List VersionPicks) (number n : ℕ) (own : VersionPicks) : Type 0 where
  pub version : Version
  pub there : slice_get versions n ≡ Some version
  pub named : version.number ≡ number
  pub kept : IsSome (version_at versions number)
  pub own_there : slice_get all n ≡ Some own
  pub judged : judged_in versions (connections_of all) number ≡ own.connections

pub found_count : (counts : List Count) (versions : List Version) (all : List VersionPicks) (number n : ℕ) (own : VersionPicks) → AreKept counts versions all → position (has_number number) versions ≡ Some n →
    own ≡ get_or all n own → FoundCount versions all number n own
found_count counts versions all number n own kept is read = record {
  version = found.0;
  there = found.1;
  named = found.2;
  kept = subst (λ m. IsSome (version_at versions m)) found.2 (place_kept versions n found.0 found.1);
  own_there = own_there;
  judged = ap (judged_in versions (connections_of all)) (sym found.2) ∙ judged-at versions all n found.0 own kept.rise found.1 own_there;
}
  where
    found : (version : Version) × (slice_get versions n ≡ Some version) × (version.number ≡ number)
    found = version_found number versions n is

    own_there : slice_get all n ≡ Some own
    own_there = let less : n < length versions = position_within (has_number number) versions n is in let many = kept.many in slice_get_read all (length all) n own refl (omega (arith, less, many)) read

-- versions that are read one by one
pub read_count : (counts : List Count) (versions : List Version) (all : List VersionPicks) (n : ℕ) (version : Version) (own : VersionPicks) → AreKept counts versions all → n < length versions →
    version ≡ get_or versions n version → own ≡ get_or all n own → (slice_get versions n ≡ Some version) × (judged_in versions (connections_of all) version.number ≡ own.connections)
read_count counts versions all n version own kept less read own_read =
    let there : slice_get versions n ≡ Some version = slice_get_read versions (length versions) n version refl less read in
    let many = kept.many in
    let own_there : slice_get all n ≡ Some own = slice_get_read all (length all) n own refl (omega (arith, less, many)) own_read in
    (there, judged-at versions all n version own kept.rise there own_there)

pub one_more_passes : (test : ℕ → Bool) (versions : List Version) (k : ℕ) (version : Version) → ((n : ℕ) (v : Version) → n < k → slice_get versions n ≡ Some v → test v.number ≡ true) →
    slice_get versions k ≡ Some version → test version.number ≡ true → (n : ℕ) (v : Version) → n < k + 1 → slice_get versions n ≡ Some v → test v.number ≡ true
one_more_passes test versions k version before there passes n v less at = by (n == k) refl
  where
    by : (b : Bool) → (n == k) ≡ b → test v.number ≡ true
    by true e =
        let same : n ≡ k = eqb-true n k e in
        ap (λ u. test u.number) (one_item (slice_get versions k) v version (ap (slice_get versions) (sym same) ∙ at) there) ∙ passes
    by false e = before n v (grind (arith, nat_tests, less)) at

-- Versions that are not in use.

-- a version that is kept has a place
pub kept_place : (versions : List Version) (number : ℕ) → IsSome (version_at versions number) → (n : ℕ) × (version : Version) × (slice_get versions n ≡ Some version) × (version.number ≡ number)
kept_place versions number some = by (position (has_number number) versions) refl
  where
    by : (o : Option ℕ) → position (has_number number) versions ≡ o → (n : ℕ) × (version : Version) × (slice_get versions n ≡ Some version) × (version.number ≡ number)
    by None e = absurd (false≢true (ap is_some (sym (nowhere (has_number number) versions e)) ∙ some))
    by (Some n) e = let found = version_found number versions n e in (n, found.0, found.1, found.2)

-- where each passes none is left out
pub all_pass : (test : ℕ → Bool) (versions : List Version) → ((number : ℕ) → IsSome (version_at versions number) → test number ≡ true) → filter (λ v. test v.number) versions ≡ versions
all_pass test [] each = refl
all_pass test (v ∷ versions) each =
    let passes : test v.number ≡ true = each v.number (place_kept (v ∷ versions) 0 v refl) in
    rw passes (ap (λ vs. v ∷ vs) (all_pass test versions (λ number some. each number (kept_later v versions number some))))

-- versions that pass alike
pub pass_alike : (one other : ℕ → Bool) (versions : List Version) → ((number : ℕ) → IsSome (version_at versions number) → one number ≡ other number) →
    filter (λ v. one v.number) versions ≡ filter (λ v. other v.number) versions
pass_alike one other [] same = refl
pass_alike one other (v ∷ versions) same =
    by (other v.number) refl (same v.number (place_kept (v ∷ versions) 0 v refl)) (pass_alike one other versions (λ number some. same number (kept_later v versions number some)))
  where
    by : (b : Bool) → other v.number ≡ b → one v.number ≡ other v.number → filter (λ u. one u.number) versions ≡ filter (λ u. other u.number) versions →
        filter (λ u. one u.number) (v ∷ versions) ≡ filter (λ u. other u.number) (v ∷ versions)
    by true e is more = rw (is, e) (ap (λ vs. v ∷ vs) more)
    by false e is more = rw (is, e) more

-- once one that does not pass is forgotten, those that pass are as they were
pub idle_left : (test : ℕ → Bool) (versions : List Version) (number : ℕ) → test number ≡ false → filter (λ v. test v.number) (filter (has_other number) versions) ≡ filter (λ v. test v.number) versions
idle_left test [] number idle = refl
idle_left test (v ∷ versions) number idle = by (v.number == number) refl (test v.number) refl (idle_left test versions number idle)
  where
    by : (b : Bool) → (v.number == number) ≡ b → (t : Bool) → test v.number ≡ t → filter (λ u. test u.number) (filter (has_other number) versions) ≡ filter (λ u. test u.number) versions →
        filter (λ u. test u.number) (filter (has_other number) (v ∷ versions)) ≡ filter (λ u. test u.number) (v ∷ versions)
    by true same true passes more = absurd (false≢true (sym idle ∙ ap test (sym (eqb-true v.number number same)) ∙ passes))
    by true same false fails more = rw (same, fails) more
    by false other true passes more = rw (other, passes) (ap (λ vs. v ∷ vs) more)
    by false other false fails more = rw (other, fails) more

fewer : (number : ℕ) (versions : List Version) → length (filter (has_other number) versions) ≤ length versions
fewer number [] = omega arith
fewer number (v ∷ versions) = by (v.number == number) refl (fewer number versions)
  where
    by : (b : Bool) → (v.number == number) ≡ b → length (filter (has_other number) versions) ≤ length versions → length (filter (has_other number) (v ∷ versions)) ≤ length (v ∷ versions)
    by true same more = rw same (omega (arith, more))
    by false other more = rw other (omega (arith, more))

-- and there is one less
pub idle_less : (versions : List Version) (number : ℕ) → IsSome (version_at versions number) → length (filter (has_other number) versions) < length versions
idle_less [] number some = absurd (false≢true some)
idle_less (v ∷ versions) number some = by (v.number == number) refl (λ later. idle_less versions number later)
  where
    by : (b : Bool) → (v.number == number) ≡ b → (IsSome (version_at versions number) → length (filter (has_other number) versions) < length versions) →
        length (filter (has_other number) (v ∷ versions)) < length (v ∷ versions)
    by true same rest = let most = fewer number versions in rw same (omega (arith, most))
    by false other rest = let less = rest (rw other at some) in rw other (omega (arith, less))

-- what is still kept was kept, and passes
pub still_passes : (test : ℕ → Bool) (versions : List Version) (number : ℕ) → IsSome (version_at (filter (λ v. test v.number) versions) number) → (test number ≡ true) × IsSome (version_at versions number)
still_passes test [] number some = absurd (false≢true some)
still_passes test (v ∷ versions) number some = by (test v.number) refl (v.number == number) refl (λ later. still_passes test versions number later) some
  where
    by : (t : Bool) → test v.number ≡ t → (b : Bool) → (v.number == number) ≡ b →
        (IsSome (version_at (filter (λ u. test u.number) versions) number) → (test number ≡ true) × IsSome (version_at versions number)) →
        IsSome (version_at (filter (λ u. test u.number) (v ∷ versions)) number) → (test number ≡ true) × IsSome (version_at (v ∷ versions) number)
    by true passes true e rest some = (ap test (sym (eqb-true v.number number e)) ∙ passes, (rw e refl))
    by true passes false e rest some =
        let kept : IsSome (version_at (v ∷ filter (λ u. test u.number) versions) number) = rw passes at some in
        let later = rest (rw e at kept) in
        (later.0, kept_later v versions number later.1)
    by false fails b e rest some = let later = rest (rw fails at some) in (later.0, kept_later v versions number later.1)

pub other_number : (n number : ℕ) → not (n == number) ≡ true → (n == number) ≡ false
other_number n number is = by (n == number) refl
  where
    by : (b : Bool) → (n == number) ≡ b → (n == number) ≡ false
    by true e = absurd (false≢true (sym (ap not e) ∙ is))
    by false e = e

-- where there is no version there is none to forget
pub no_versions : (versions : List Version) → newest versions ≡ None → versions ≡ []
no_versions [] none = refl
no_versions (version ∷ versions) none = let last = newest-some version versions in absurd (let wrong : None ≡ Some last.0 = sym none ∙ last.1 in cc)
