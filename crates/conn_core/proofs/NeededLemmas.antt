-- What is forgotten once a connection ended, and once a plan came into force.
use Rattle.std.proofs.Common.{◌≡◌, ℕ, zero, suc, ◌+◌, ◌≤◌, ◌<◌, true, not, List, [], ◌∷◌, Option, Some, None, refl, sym, ap, subst, arith, ◌∙◌}
use Rattle.std.specs.Prelude.{filter, slice_get, slice_set, zip, IsSome, ◌==◌}
use Rattle.std.specs.List.{list_any, AllByRecursion}
use Rattle.std.specs.Option.{option_map_or}
use Rattle.std.proofs.lemmas.Bool.{eq-eqb, false≢true}
use Rattle.plan_types.specs.declared.plan.Plan.{Plan}
use Rattle.plan_types.specs.declared.plan.Table.{Table}
use Rattle.plan_types.specs.declared.track.TableId.{TableId}
use Rattle.plan_types.specs.declared.track.Track.{Track}
use Rattle.conn_model.specs.declared.event.ConnId.{ConnId}
use Rattle.conn_model.specs.declared.event.OwnedEvent.{OwnedEvent}
use Rattle.conn_model.specs.declared.reply.Reply.{Reply}
use Rattle.conn_model.specs.declared.plain.Row.{Row}
use Rattle.conn_model.specs.declared.plain.FrontendRows.{FrontendRows}
use Rattle.conn_model.specs.declared.plain.TableState.{TableState}
use Rattle.conn_model.specs.declared.plain.Version.{Version}
use Rattle.conn_model.specs.declared.plain.Plain.{Plain}
use Rattle.conn_model.specs.Words.{newest}
use Rattle.conn_model.specs.Answer.{version_at}
use Rattle.conn_model.specs.Tables.{same_id, table_at, tracks_at, without_tracks, written_tables, IsTrackListed}
use Rattle.conn_model.specs.History.{has_version, is_last, is_needed, needed_versions, newest_number, tables_of, with_said, with_version, IsFrontendWell, IsWell}
use Rattle.conn_model.proofs.Goes.{versions_below}
use Rattle.conn_model.proofs.Listed.{all-in, IsIn}
use Rattle.conn_model.proofs.Lists.{all-at, all-both, all-filter, all-found, all-more, or_right}
use Rattle.conn_model.proofs.OneTable.{same_id-is}
use Rattle.conn_model.proofs.TableSteps.{listed_in, newest-all}
use Rattle.conn_model.proofs.Versions.{last_no_offer, version_at-filter, version_at-with, versions_kept}
use Rattle.conn_rows.specs.Tables.{is_listed_in}
use Rattle.conn_model.specs.Changes.{without_conn}
use Rattle.conn_rows.specs.Value.{RowsValue}
use Rattle.conn_rows.specs.Needed.{versions_needed, AreTracksHeld, AreVersionsKept, IsNextNumber}
use Rattle.conn_core.specs.Changes.{spoken}
use Rattle.conn_core.specs.Machine.{IsNextVersion}

-- The version of each open connection is needed.

open_needed : (frontends : List FrontendRows) (force : ℕ) → AllByRecursion (λ own. AllByRecursion (λ row. is_needed frontends force row.version ≡ true) own.rows) frontends
open_needed frontends force =
    all-more (IsIn frontends) (λ own. AllByRecursion (λ row. is_needed frontends force row.version ≡ true) own.rows) frontends
    (λ own among.
    all-more (IsIn own.rows) (λ row. is_needed frontends force row.version ≡ true) own.rows
    (λ row within.
    or_right (row.version == force) (list_any (has_version row.version) frontends)
    (among (has_version row.version) (within (λ r. r.version == row.version) (eq-eqb row.version row.version refl))))
    (all-in own.rows))
    (all-in frontends)

-- so what it lists is what it listed
listed_needed : (frontends : List FrontendRows) (force : ℕ) (versions : List Version) (number : ℕ) → is_needed frontends force number ≡ true →
    tables_of (needed_versions frontends force versions) number ≡ tables_of versions number
listed_needed frontends force versions number is =
    ap (λ (o : Option Version). option_map_or (λ (version : Version). version.tables) o []) (version_at-filter (is_needed frontends force) versions number is)

-- what each open connection tracks is in tables that its version lists
abbrev pub AreTracksOwn : List Version → List FrontendRows → Type 0
AreTracksOwn versions frontends =
    AllByRecursion (λ own. AllByRecursion (λ row. AllByRecursion (λ track. list_any (same_id track.table) (tables_of versions row.version) ≡ true) row.tracks) own.rows) frontends

-- so the versions that are needed list them
pub held_needed : (frontends : List FrontendRows) (versions : List Version) → AreTracksOwn versions frontends → AreTracksHeld frontends (versions_needed frontends versions)
held_needed frontends versions own_tables =
    all-more (λ own. Needed own × Own own) Held frontends
    (λ own both.
    all-more (λ row. NeededRow row × OwnRow row) HeldRow own.rows
    (λ row known.
    all-more (λ track. list_any (same_id track.table) (tables_of versions row.version) ≡ true) (λ track. is_listed_in (versions_needed frontends versions) track.table ≡ true) row.tracks
    (λ track is.
    listed_in (versions_needed frontends versions) row.version track.table
    (ap (list_any (same_id track.table)) (listed_needed frontends force versions row.version known.0) ∙ is))
    known.1)
    (all-both NeededRow OwnRow own.rows both.0 both.1))
    (all-both Needed Own frontends (open_needed frontends force) own_tables)
  where
    force : ℕ
    force = option_map_or (λ version. version.number) (newest versions) 0

    NeededRow : Row → Type 0
    NeededRow row = is_needed frontends force row.version ≡ true

    OwnRow : Row → Type 0
    OwnRow row = AllByRecursion (λ track. list_any (same_id track.table) (tables_of versions row.version) ≡ true) row.tracks

    HeldRow : Row → Type 0
    HeldRow row = AllByRecursion (λ track. is_listed_in (versions_needed frontends versions) track.table ≡ true) row.tracks

    Needed : FrontendRows → Type 0
    Needed own = AllByRecursion NeededRow own.rows

    Own : FrontendRows → Type 0
    Own own = AllByRecursion OwnRow own.rows

    Held : FrontendRows → Type 0
    Held own = AllByRecursion HeldRow own.rows

-- in a state that a core can be in
pub own_tables : (p : Plain) → IsWell p → AreTracksOwn p.versions p.frontends
own_tables p well =
    all-more (λ own. AllByRecursion (λ row. AllByRecursion (IsTrackListed (tables_of p.versions row.version) p.tables) row.tracks) own.rows)
    (λ own. AllByRecursion (λ row. AllByRecursion (λ track. list_any (same_id track.table) (tables_of p.versions row.version) ≡ true) row.tracks) own.rows) p.frontends
    (λ own rows.
    all-more (λ row. AllByRecursion (IsTrackListed (tables_of p.versions row.version) p.tables) row.tracks)
    (λ row. AllByRecursion (λ track. list_any (same_id track.table) (tables_of p.versions row.version) ≡ true) row.tracks) own.rows
    (λ row tracks.
    all-more (IsTrackListed (tables_of p.versions row.version) p.tables) (λ track. list_any (same_id track.table) (tables_of p.versions row.version) ≡ true) row.tracks
    (λ track known. known.table) tracks)
    rows)
    well.tracks

-- Once a connection ended.

all-set : {X : Type 0} (P : X → Type 0) (xs : List X) (n : ℕ) (x : X) → AllByRecursion P xs → P x → AllByRecursion P (slice_set xs n x)
all-set P [] n x all here = tt
all-set P (y ∷ xs) zero x all here = (here, all.1)
all-set P (y ∷ xs) (suc n) x all here = (all.0, all-set P xs n x all.1 here)

own_without : (versions : List Version) (frontends : List FrontendRows) (id : ConnId) → AreTracksOwn versions frontends → AreTracksOwn versions (without_conn id frontends)
own_without versions frontends id all = by (slice_get frontends id.frontend) refl
  where
    P : Row → Type 0
    P row = AllByRecursion (λ track. list_any (same_id track.table) (tables_of versions row.version) ≡ true) row.tracks

    Q : FrontendRows → Type 0
    Q own = AllByRecursion P own.rows

    by : (o : Option FrontendRows) → slice_get frontends id.frontend ≡ o → AllByRecursion Q (without_conn id frontends)
    by None none = rw none all
    by (Some own) there =
        rw there (all-set Q frontends id.frontend (record own { rows = filter (λ row. not (row.serial == id.serial)) own.rows }) all
        (all-filter P (λ row. not (row.serial == id.serial)) own.rows (all-at Q frontends id.frontend own all there)))

-- the others track keys of tables that are kept
pub held_without : (p : Plain) → IsWell p → (id : ConnId) → AreTracksHeld (without_conn id p.frontends) (versions_needed (without_conn id p.frontends) p.versions)
held_without p well id = held_needed (without_conn id p.frontends) p.versions (own_without p.versions p.frontends id (own_tables p well))

-- the same of the rows, once it was taken out of them
pub held_removed : {before passed left : RowsValue} (id : ConnId) →
    left ≡ record before { frontends = without_conn id before.frontends; tables = without_tracks before.clock (tracks_at before.frontends id) before.tables } → before ≡ passed →
    AreTracksHeld (without_conn id passed.frontends) (versions_needed (without_conn id passed.frontends) passed.versions) → AreTracksHeld left.frontends (versions_needed left.frontends left.versions)
held_removed id left_is before_is held =
    subst (λ (r : RowsValue). AreTracksHeld r.frontends (versions_needed r.frontends r.versions))
    (sym (left_is ∙ ap (λ (r : RowsValue). record r { frontends = without_conn id r.frontends; tables = without_tracks r.clock (tracks_at r.frontends id) r.tables }) before_is)) held

-- also where the step was a reply to it
pub held_spoken : (p : Plain) → IsWell p → (event : OwnedEvent) (id : ConnId) (reply : Reply) (number : ℕ) → is_last reply.said ≡ true →
    AreTracksHeld (spoken p.versions event id reply p.frontends) (versions_needed (spoken p.versions event id reply p.frontends) (with_said number reply.said p.versions))
held_spoken p well event id reply number last =
    let gone : spoken p.versions event id reply p.frontends ≡ without_conn id p.frontends = rw last refl in
    let same : with_said number reply.said p.versions ≡ p.versions = versions_kept number reply.said p.versions (last_no_offer reply.said last) in
    subst (λ vs. AreTracksHeld (spoken p.versions event id reply p.frontends) (versions_needed (spoken p.versions event id reply p.frontends) vs)) (sym same)
    (subst (λ fs. AreTracksHeld fs (versions_needed fs p.versions)) (sym gone) (held_without p well id))

-- Once a plan came into force.

-- the version of each open connection is kept
pub rows_kept : (p : Plain) → IsWell p → AreVersionsKept p.frontends p.versions
rows_kept p well =
    all-more (IsFrontendWell p.versions) (λ own. AllByRecursion (λ row. IsSome (version_at p.versions row.version)) own.rows) p.frontends (λ own fine. fine.kept) well.frontends

own_with : (p : Plain) → IsWell p → (brought : Option (ℕ × Plan)) → AreTracksOwn (with_version p.versions brought) p.frontends
own_with p well brought =
    all-more (λ own. Kept own × Own own) Now p.frontends
    (λ own both.
    all-more (λ row. KeptRow row × OwnRow row) NowRow own.rows
    (λ row known.
    let same : tables_of (with_version p.versions brought) row.version ≡ tables_of p.versions row.version =
    ap (λ (o : Option Version). option_map_or (λ (version : Version). version.tables) o []) (version_at-with p.versions brought row.version known.0) in
    subst (λ (ids : List TableId). AllByRecursion (λ (track : Track). list_any (same_id track.table) ids ≡ true) row.tracks) (sym same) known.1)
    (all-both KeptRow OwnRow own.rows both.0 both.1))
    (all-both Kept Own p.frontends (rows_kept p well) (own_tables p well))
  where
    KeptRow : Row → Type 0
    KeptRow row = IsSome (version_at p.versions row.version)

    OwnRow : Row → Type 0
    OwnRow row = AllByRecursion (λ track. list_any (same_id track.table) (tables_of p.versions row.version) ≡ true) row.tracks

    NowRow : Row → Type 0
    NowRow row = AllByRecursion (λ track. list_any (same_id track.table) (tables_of (with_version p.versions brought) row.version) ≡ true) row.tracks

    Kept : FrontendRows → Type 0
    Kept own = AllByRecursion KeptRow own.rows

    Own : FrontendRows → Type 0
    Own own = AllByRecursion OwnRow own.rows

    Now : FrontendRows → Type 0
    Now own = AllByRecursion NowRow own.rows

pub held_with : (p : Plain) → IsWell p → (brought : Option (ℕ × Plan)) → AreTracksHeld p.frontends (versions_needed p.frontends (with_version p.versions brought))
held_with p well brought = held_needed p.frontends (with_version p.versions brought) (own_with p well brought)

-- Each incarnation that the newest version lists began with a version that is not newer.

zip-all : {X Y : Type 0} (P : Y → Type 0) (xs : List X) (ys : List Y) → AllByRecursion P ys → AllByRecursion (λ (pair : X × Y). P pair.1) (zip xs ys)
zip-all P [] ys all = tt
zip-all P (x ∷ xs) [] all = tt
zip-all P (x ∷ xs) (y ∷ ys) all = (all.0, zip-all P xs ys all.1)

began_there : (p : Plain) → IsWell p → (id : TableId) → IsSome (table_at p.tables id) → id.version ≤ newest_number p
began_there p well id is = by (table_at p.tables id) refl is
  where
    by : (o : Option TableState) → table_at p.tables id ≡ o → IsSome o → id.version ≤ newest_number p
    by None there some = absurd (false≢true some)
    by (Some table) there some =
        let known = all-found (λ (t : TableState). t.id.version ≤ newest_number p) (λ (t : TableState). same_id t.id id) p.tables table well.tables.began there in
        subst (λ (i : TableId). i.version ≤ newest_number p) (same_id-is table.id id known.1) known.0

written_before : (p : Plain) → IsWell p → (number : ℕ) → newest_number p < number → AllByRecursion (λ (pair : Table × TableId). pair.1.version < number) (written_tables (newest p.versions))
written_before p well number above = by (newest p.versions) refl
  where
    P : Version → Type 0
    P version = AllByRecursion (λ id. id.version < number) version.tables

    each : AllByRecursion P p.versions
    each =
        all-more (λ version. AllByRecursion (λ id. IsSome (table_at p.tables id)) version.tables) P p.versions
        (λ version all.
        all-more (λ id. IsSome (table_at p.tables id)) (λ id. id.version < number) version.tables
        (λ id is. let began : id.version ≤ newest_number p = began_there p well id is in omega (arith, began, above)) all)
        well.tables.there

    by : (o : Option Version) → newest p.versions ≡ o → AllByRecursion (λ (pair : Table × TableId). pair.1.version < number) (written_tables o)
    by None none = tt
    by (Some version) is = zip-all (λ (id : TableId). id.version < number) version.plan.tables version.tables (newest-all P p.versions version each is)

-- the number after that of the newest version is new to versions and tables
pub next_is : (p : Plain) → IsWell p → (number : ℕ) → IsNextVersion p number → IsNextNumber number p.versions p.tables
next_is p well number next =
    let is : number ≡ newest_number p + 1 = next.next in
    let above : newest_number p < number = omega (arith, is) in
    record {
      above = all-more (λ version. version.number ≤ newest_number p) (λ version. version.number < number) p.versions (λ version le. omega (arith, le, above)) (versions_below p well);
      began = all-more (λ table. table.id.version ≤ newest_number p) (λ table. table.id.version < number) p.tables (λ table le. omega (arith, le, above)) well.tables.began;
      written = written_before p well number above;
    }
