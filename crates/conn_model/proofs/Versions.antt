-- The newest version, and versions of which the cursors move.
use Rattle.std.specs.Prelude.{ℕ, Bool, true, false, List, [], length, map, filter, position, slice_get, Option, Some, None, IsSome, option_map, option_to_list, refl, ◌≤◌, ◌<◌, ◌≡◌, ◌==◌, ◌∷◌, ◌++◌}
use Rattle.std.specs.List.{AllByRecursion}
use Rattle.std.specs.Option.{option_map_or}
use Rattle.std.proofs.Common.{sym, ap, ◌∙◌, arith, append-nil}
use Rattle.std.proofs.lemmas.Bool.{eq-eqb, eqb-true, false≢true}
use Rattle.std.proofs.lemmas.Bool.Decides.{nat_tests}
use Rattle.std.proofs.lemmas.List.{map-append, map-id}
use Rattle.list_core.proofs.Items.{length-set}
use Rattle.proxy_types.specs.declared.balance.Place.{Place}
use Rattle.plan_types.specs.declared.plan.Backend.{Backend}
use Rattle.plan_types.specs.declared.plan.Plan.{Plan}
use Rattle.plan_types.specs.Lines.{has_line}
use Rattle.conn_model.specs.declared.plain.Version.{Version}
use Rattle.conn_model.specs.declared.reply.Said.{Said}
use Rattle.conn_model.specs.declared.reply.Said.TheVariants as saids
use Rattle.conn_model.specs.declared.reply.Said.TheVariants.{Wait, Offer}
use Rattle.conn_model.specs.Words.{newest, Rise}
use Rattle.conn_model.specs.Answer.{version_at}
use Rattle.conn_model.specs.Servers.{cursors_after, with_cursor}
use Rattle.conn_model.specs.History.{is_last, next_version, tables_of, with_offer, with_said, with_version}
use Rattle.conn_model.specs.Tables.{written_tables}

-- The newest version is the one of its number.
pub newest-at : (versions : List Version) (v : Version) → Rise (λ version. version.number) versions → newest versions ≡ Some v → version_at versions v.number ≡ Some v
newest-at [] v rise there = absurd (let wrong : None ≡ Some v = there in cc)
newest-at (w ∷ []) v rise there = let same : w ≡ v = let it : Some w ≡ Some v = there in cc in rw (eq-eqb w.number v.number (ap (λ u. u.number) same)) (ap (λ u. Some u) same)
newest-at (w ∷ x ∷ versions) v rise there =
    let less : w.number < v.number = above (x ∷ versions) v there rise.0 in
    let differs : (w.number == v.number) ≡ false = grind (arith, nat_tests, less) in
    rw differs (newest-at (x ∷ versions) v rise.1 there)
  where
    above : (vs : List Version) (v : Version) → newest vs ≡ Some v → AllByRecursion (λ u. w.number < u.number) vs → w.number < v.number
    above [] v there all = absurd (let wrong : None ≡ Some v = there in cc)
    above (u ∷ []) v there all = let same : u ≡ v = let it : Some u ≡ Some v = there in cc in let n : u.number ≡ v.number = ap (λ x. x.number) same in omega (arith, all.0, n)
    above (u ∷ y ∷ vs) v there all = above (y ∷ vs) v there all.1

-- Of a version only the cursors change.

abbrev pub CursorsChange : (Version → Version) → Type 0
CursorsChange change = (version : Version) → change version ≡ record version { cursors = (change version).cursors }

-- so each is found under its number
pub version_at-map : (f : Version → Version) → CursorsChange f → (versions : List Version) (number : ℕ) → version_at (map f versions) number ≡ option_map f (version_at versions number)
version_at-map f same [] number = refl
version_at-map f same (version ∷ versions) number = by (version.number == number) refl (version_at-map f same versions number)
  where
    by : (b : Bool) → (version.number == number) ≡ b → version_at (map f versions) number ≡ option_map f (version_at versions number) →
        version_at (map f (version ∷ versions)) number ≡ option_map f (version_at (version ∷ versions) number)
    by true e rest = let changed : ((f version).number == number) ≡ true = ap (λ v. v.number == number) (same version) ∙ e in rw (changed, e) refl
    by false e rest = let changed : ((f version).number == number) ≡ false = ap (λ v. v.number == number) (same version) ∙ e in rw (changed, e) rest

-- with its tables
pub tables_of-map : (f : Version → Version) → CursorsChange f → (versions : List Version) (number : ℕ) → tables_of (map f versions) number ≡ tables_of versions number
tables_of-map f same versions number = ap (λ o. option_map_or (λ version. version.tables) o []) (version_at-map f same versions number) ∙ by (version_at versions number)
  where
    by : (o : Option Version) → option_map_or (λ version. version.tables) (option_map f o) [] ≡ option_map_or (λ version. version.tables) o []
    by None = refl
    by (Some version) = ap (λ v. v.tables) (same version)

-- and its plan
pub plan_at-map : (f : Version → Version) → CursorsChange f → (versions : List Version) (number : ℕ) →
    option_map (λ version. version.plan) (version_at (map f versions) number) ≡ option_map (λ version. version.plan) (version_at versions number)
plan_at-map f same versions number = ap (λ o. option_map (λ version. version.plan) o) (version_at-map f same versions number) ∙ by (version_at versions number)
  where
    by : (o : Option Version) → option_map (λ version. version.plan) (option_map f o) ≡ option_map (λ version. version.plan) o
    by None = refl
    by (Some version) = ap (λ v. Some v.plan) (same version)

pub newest-map : (f : Version → Version) (versions : List Version) → newest (map f versions) ≡ option_map f (newest versions)
newest-map f [] = refl
newest-map f (version ∷ []) = refl
newest-map f (version ∷ next ∷ versions) = newest-map f (next ∷ versions)

-- the number of the newest
abbrev pub last_number : List Version → ℕ
last_number versions = option_map_or (λ version. version.number) (newest versions) 0

pub last_number-map : (f : Version → Version) → CursorsChange f → (versions : List Version) → last_number (map f versions) ≡ last_number versions
last_number-map f same versions = ap (λ o. option_map_or (λ version. version.number) o 0) (newest-map f versions) ∙ by (newest versions)
  where
    by : (o : Option Version) → option_map_or (λ version. version.number) (option_map f o) 0 ≡ option_map_or (λ version. version.number) o 0
    by None = refl
    by (Some version) = ap (λ v. v.number) (same version)

-- a version's number with its plan
abbrev pub plan_pair : Version → ℕ × Plan
plan_pair version = (version.number, version.plan)

pub plan_pairs-map : (f : Version → Version) → CursorsChange f → (versions : List Version) → map plan_pair (map f versions) ≡ map plan_pair versions
plan_pairs-map f same [] = refl
plan_pairs-map f same (version ∷ versions) = let this : plan_pair (f version) ≡ plan_pair version = ap plan_pair (same version) in cc (this, plan_pairs-map f same versions)

-- What is said moves cursors alone.

-- a version once that is said to a connection that the version of that number judges
abbrev pub version_said : ℕ → Said → Version → Version
version_said number (Offer id used line server to judged send) version = with_offer number line server version
version_said number said version = version

pub with_said-each : (number : ℕ) (said : Said) (versions : List Version) → with_said number said versions ≡ map (version_said number said) versions
with_said-each number (Offer id used line server to judged send) versions = refl
with_said-each number said versions = sym (map-id versions)

with_offer-cursors : (number line server : ℕ) → CursorsChange (with_offer number line server)
with_offer-cursors number line server version = by (version.number == number) refl
  where
    by : (b : Bool) → (version.number == number) ≡ b → with_offer number line server version ≡ record version { cursors = (with_offer number line server version).cursors }
    by true e = rw e refl
    by false e = rw e refl

pub version_said-cursors : (number : ℕ) (said : Said) → CursorsChange (version_said number said)
version_said-cursors number (Offer id used line server to judged send) version = with_offer-cursors number line server version
version_said-cursors number said version = refl

-- the reply offers a server
abbrev pub is_offer : Said → Bool
is_offer (Offer id used line server to judged send) = true
is_offer said = false

-- the versions are as they were after another reply
pub versions_kept : (number : ℕ) (said : Said) (versions : List Version) → is_offer said ≡ false → with_said number said versions ≡ versions
versions_kept number (Offer id used line server to judged send) versions other = absurd (false≢true (sym other))
versions_kept number said versions other = refl

-- and so after a last one
pub last_no_offer : (said : Said) → is_last said ≡ true → is_offer said ≡ false
last_no_offer (Wait id used) last = absurd (false≢true last)
last_no_offer (Offer id used line server to judged send) last = absurd (false≢true last)
last_no_offer (saids.Up id) last = absurd (false≢true last)
last_no_offer said last = refl

-- There are as many cursors as before.

cursor-length : (backends : List Backend) (number server : ℕ) (cursors : List (Option Place)) → length (with_cursor backends number server cursors) ≡ length cursors
cursor-length backends number server cursors = by (slice_get backends number) refl
  where
    by : (o : Option Backend) → slice_get backends number ≡ o → length (with_cursor backends number server cursors) ≡ length cursors
    by None e = rw e refl
    by (Some backend) e = rw e (length-set cursors _ _)

pub cursors-length : (plan : Plan) (line server : ℕ) (cursors : List (Option Place)) → length (cursors_after plan line server cursors) ≡ length cursors
cursors-length plan line server cursors = by (position (has_line line) plan.backends) refl
  where
    by : (o : Option ℕ) → position (has_line line) plan.backends ≡ o → length (cursors_after plan line server cursors) ≡ length cursors
    by None e = rw e refl
    by (Some number) e = rw e (cursor-length plan.backends number server cursors)

pub version_said-length : (number : ℕ) (said : Said) (version : Version) → length (version_said number said version).cursors ≡ length version.cursors
version_said-length number (Offer id used line server to judged send) version = by (version.number == number) refl
  where
    by : (b : Bool) → (version.number == number) ≡ b → length (with_offer number line server version).cursors ≡ length version.cursors
    by true e = rw e (cursors-length version.plan line server version.cursors)
    by false e = rw e refl
version_said-length number said version = refl

-- A version that comes.

pub newest-end : (versions : List Version) (version : Version) → newest (versions ++ version ∷ []) ≡ Some version
newest-end [] version = refl
newest-end (v ∷ []) version = refl
newest-end (v ∷ w ∷ versions) version = newest-end (w ∷ versions) version

pub last_number-with : (versions : List Version) (brought : Option (ℕ × Plan)) → last_number (with_version versions brought) ≡ option_map_or (λ b. b.0) brought (last_number versions)
last_number-with versions None = refl
last_number-with versions (Some (number, plan)) = ap (λ o. option_map_or (λ version. version.number) o 0) (newest-end versions (next_version number (written_tables (newest versions)) plan))

pub plan_pairs-with : (versions : List Version) (brought : Option (ℕ × Plan)) → map plan_pair (with_version versions brought) ≡ map plan_pair versions ++ option_to_list brought
plan_pairs-with versions None = sym (append-nil (map plan_pair versions))
plan_pairs-with versions (Some (number, plan)) = map-append plan_pair versions (next_version number (written_tables (newest versions)) plan ∷ [])

-- Versions that are forgotten.

newest-cons : (version w : Version) (versions : List Version) → newest versions ≡ Some w → newest (version ∷ versions) ≡ Some w
newest-cons version w [] there = absurd (let wrong : None ≡ Some w = there in cc)
newest-cons version w (v ∷ versions) there = there

pub newest-some : (version : Version) (versions : List Version) → (w : Version) × (newest (version ∷ versions) ≡ Some w)
newest-some version [] = (version, refl)
newest-some version (v ∷ versions) = newest-some v versions

-- where the newest stays
pub newest-filter : (test : Version → Bool) (versions : List Version) (w : Version) → newest versions ≡ Some w → test w ≡ true → newest (filter test versions) ≡ Some w
newest-filter test [] w there passes = absurd (let wrong : None ≡ Some w = there in cc)
newest-filter test (v ∷ []) w there passes =
    let same : v ≡ w = let it : Some v ≡ Some w = there in cc in
    let here : test v ≡ true = ap test same ∙ passes in
    rw here there
newest-filter test (v ∷ u ∷ versions) w there passes = by (test v) refl (newest-filter test (u ∷ versions) w there passes)
  where
    by : (b : Bool) → test v ≡ b → newest (filter test (u ∷ versions)) ≡ Some w → newest (filter test (v ∷ u ∷ versions)) ≡ Some w
    by true e rest = let this : filter test (v ∷ u ∷ versions) ≡ v ∷ filter test (u ∷ versions) = rw e refl in ap newest this ∙ newest-cons v w (filter test (u ∷ versions)) rest
    by false e rest = let this : filter test (v ∷ u ∷ versions) ≡ filter test (u ∷ versions) = rw e refl in ap newest this ∙ rest

pub last_number-filter : (test : Version → Bool) (versions : List Version) → ((w : Version) → newest versions ≡ Some w → test w ≡ true) → last_number (filter test versions) ≡ last_number versions
last_number-filter test [] stays = refl
last_number-filter test (v ∷ versions) stays =
    let w = newest-some v versions in
    ap (λ o. option_map_or (λ version. version.number) o 0) (newest-filter test (v ∷ versions) w.0 w.1 (stays w.0 w.1) ∙ sym w.1)

-- by a test of numbers
pub version_at-filter : (test : ℕ → Bool) (versions : List Version) (number : ℕ) → test number ≡ true → version_at (filter (λ version. test version.number) versions) number ≡ version_at versions number
version_at-filter test [] number passes = refl
version_at-filter test (v ∷ versions) number passes = by (test v.number) (v.number == number) refl refl (version_at-filter test versions number passes)
  where
    by : (a b : Bool) → test v.number ≡ a → (v.number == number) ≡ b → version_at (filter (λ version. test version.number) versions) number ≡ version_at versions number →
        version_at (filter (λ version. test version.number) (v ∷ versions)) number ≡ version_at (v ∷ versions) number
    by true true ea eb rest = rw (ea, eb) refl
    by true false ea eb rest = rw (ea, eb) rest
    by false true ea eb rest = absurd (false≢true (sym ea ∙ ap test (eqb-true v.number number eb) ∙ passes))
    by false false ea eb rest = rw (ea, eb) rest

-- a version that is there already
pub version_at-append : (versions more : List Version) (number : ℕ) → IsSome (version_at versions number) → version_at (versions ++ more) number ≡ version_at versions number
version_at-append [] more number is = absurd (false≢true is)
version_at-append (v ∷ versions) more number is = by (v.number == number) refl (version_at-append versions more number)
  where
    by : (b : Bool) → (v.number == number) ≡ b → (IsSome (version_at versions number) → version_at (versions ++ more) number ≡ version_at versions number) →
        version_at (v ∷ (versions ++ more)) number ≡ version_at (v ∷ versions) number
    by true e rest = rw e refl
    by false e rest = rw e (rest (rw e at is))

pub version_at-with : (versions : List Version) (brought : Option (ℕ × Plan)) (number : ℕ) → IsSome (version_at versions number) → version_at (with_version versions brought) number ≡ version_at versions number
version_at-with versions None number is = refl
version_at-with versions (Some (next, plan)) number is = version_at-append versions (next_version next (written_tables (newest versions)) plan ∷ []) number is

-- No version has a number above the newest.
pub numbers-below : (versions : List Version) (v : Version) → Rise (λ version. version.number) versions → newest versions ≡ Some v → AllByRecursion (λ version. version.number ≤ v.number) versions
numbers-below [] v rise there = tt
numbers-below (w ∷ []) v rise there =
    let same : w ≡ v = let it : Some w ≡ Some v = there in cc in
    let number : w.number ≡ v.number = ap (λ u. u.number) same in
    (omega (arith, number), tt)
numbers-below (w ∷ x ∷ versions) v rise there =
    let rest : AllByRecursion (λ version. version.number ≤ v.number) (x ∷ versions) = numbers-below (x ∷ versions) v rise.1 there in
    let up : w.number < x.number = rise.0.0 in
    let le : x.number ≤ v.number = rest.0 in
    (omega (arith, up, le), rest)
