-- What a step makes of the versions.
use Rattle.std.specs.Prelude.{ℕ, Bool, true, not, max, List, [], map, filter, slice_get, Option, Some, None, IsSome, length, option_map, option_and_then, refl, ◌+◌, ◌≤◌, ◌≡◌, ◌==◌, ◌∷◌, ◌++◌}
use Rattle.std.specs.List.{list_any, AllByRecursion, enumerate_from}
use Rattle.std.specs.Option.{option_map_or}
use Rattle.std.proofs.Common.{sym, ap, ◌∙◌, subst, arith}
use Rattle.std.proofs.lemmas.Bool.{eq-eqb, false≢true}
use Rattle.std.proofs.lemmas.List.{length-map}
use Rattle.std.proofs.lemmas.List.FromFn.{length-enumerate_from}
use Rattle.plan_types.specs.declared.plan.Plan.{Plan}
use Rattle.plan_types.specs.declared.plan.Table.{Table}
use Rattle.plan_types.specs.declared.track.TableId.{TableId}
use Rattle.conn_model.specs.declared.event.ConnId.{ConnId}
use Rattle.conn_model.specs.declared.reply.Said.{Said}
use Rattle.conn_model.specs.declared.plain.Row.{Row}
use Rattle.conn_model.specs.declared.plain.FrontendRows.{FrontendRows}
use Rattle.conn_model.specs.declared.plain.Version.{Version}
use Rattle.conn_model.specs.declared.plain.Plain.{Plain}
use Rattle.conn_model.specs.Words.{newest, row_at, Rise}
use Rattle.conn_model.specs.Answer.{version_at}
use Rattle.conn_model.specs.Tables.{next_id, written_tables}
use Rattle.conn_model.specs.History.{arrivals, frontend_after, frontends_after, has_ended, has_version, id_of, in_force, is_needed, judging_version, needed_versions, newest_number, next_version, row_after, tables_of, version_of, versions_after, versions_by, with_said, with_version, after, Entry, IsFrontendWell, IsLegal, IsVersionWell, IsWell}
use Rattle.conn_model.proofs.Lists.{all-append, all-both, all-filter, all-map, all-more, all-pass, filter-all, get-from_zero, or_left, rise-append, rise-filter, rise-map}
use Rattle.conn_model.proofs.Nothing.{after-nil}
use Rattle.conn_model.proofs.Parts.{newest_after}
use Rattle.conn_model.proofs.Replies.{answered}
use Rattle.conn_model.proofs.Serials.{arrival-all}
use Rattle.conn_model.proofs.Kept.{needed_after, open-needed, stays, turn, turns, Turn}
use Rattle.conn_model.proofs.Goes.{newest_of, versions_below, well_at}
use Rattle.conn_model.proofs.Trackings.{row_unused}
use Rattle.conn_model.proofs.Versions.{last_number, last_number-map, last_number-with, newest-at, newest-end, newest-filter, newest-map, tables_of-map, version_at-filter, version_at-map, version_at-with, version_said, version_said-cursors, version_said-length, with_said-each, CursorsChange}

-- Which version judges.

-- a connection that is open: that of its row
pub judging-old : (frontends : List FrontendRows) (force : ℕ) (said : Said) (id : ConnId) (row : Row) → id_of said ≡ Some id → row_at frontends id ≡ Some row → judging_version frontends force said ≡ row.version
judging-old frontends force said id row whom there =
    ap (λ o. option_map_or (λ r. r.version) (option_and_then (row_at frontends) o) force) whom ∙ ap (λ o. option_map_or (λ r. r.version) o force) there

-- one that comes: the version in force
pub judging-new : (frontends : List FrontendRows) (force : ℕ) (said : Said) (id : ConnId) (own : FrontendRows) → id_of said ≡ Some id → slice_get frontends id.frontend ≡ Some own →
    AllByRecursion (λ row. row.serial ≤ own.serial) own.rows → id.serial ≡ own.serial + 1 → judging_version frontends force said ≡ force
judging-new frontends force said id own whom there given next =
    ap (λ o. option_map_or (λ r. r.version) (option_and_then (row_at frontends) o) force) whom
    ∙ ap (λ o. option_map_or (λ r. r.version) o force) (row_unused frontends id own there given next)

-- The versions after one step.

pub versions_step : (p : Plain) → IsWell p → (e : Entry) →
    versions_after p (e ∷ []) ≡ needed_versions (frontends_after p (e ∷ [])) (in_force (newest_number p) (e ∷ []))
    (with_version (with_said (judging_version p.frontends (newest_number p) e.reply.said) e.reply.said p.versions) (version_of e))
versions_step p well e =
    ap (λ q. needed_versions (frontends_after p (e ∷ [])) (in_force (newest_number p) (e ∷ []))
    (with_version (with_said (judging_version q.frontends (newest_number p) e.reply.said) e.reply.said p.versions) (version_of e))) (after-nil p well)

-- a version after it
abbrev pub version_step : Plain → Entry → Version → Version
version_step p e = version_said (judging_version p.frontends (newest_number p) e.reply.said) e.reply.said

pub version_step-cursors : (p : Plain) (e : Entry) → CursorsChange (version_step p e)
version_step-cursors p e = version_said-cursors (judging_version p.frontends (newest_number p) e.reply.said) e.reply.said

-- all of them, with the one that is brought, before any is forgotten
abbrev pub versions_all : Plain → Entry → List Version
versions_all p e = with_version (map (version_step p e) p.versions) (version_of e)

pub versions_step-each : (p : Plain) → IsWell p → (e : Entry) →
    versions_after p (e ∷ []) ≡ needed_versions (frontends_after p (e ∷ [])) (in_force (newest_number p) (e ∷ [])) (versions_all p e)
versions_step-each p well e =
    versions_step p well e
    ∙ ap (λ vs. needed_versions (frontends_after p (e ∷ [])) (in_force (newest_number p) (e ∷ [])) (with_version vs (version_of e)))
    (with_said-each (judging_version p.frontends (newest_number p) e.reply.said) e.reply.said p.versions)

-- where none is brought
pub versions_quiet : (p : Plain) → IsWell p → (e : Entry) → version_of e ≡ None →
    versions_after p (e ∷ []) ≡ needed_versions (frontends_after p (e ∷ [])) (newest_number p) (with_said (judging_version p.frontends (newest_number p) e.reply.said) e.reply.said p.versions)
versions_quiet p well e none =
    versions_step p well e
    ∙ ap (λ b. needed_versions (frontends_after p (e ∷ [])) (option_map_or (λ brought. brought.0) b (newest_number p))
    (with_version (with_said (judging_version p.frontends (newest_number p) e.reply.said) e.reply.said p.versions) b)) none

-- and each is needed on
pub versions_said : (p : Plain) → IsWell p → (e : Entry) → version_of e ≡ None →
    ((n : ℕ) → is_needed p.frontends (newest_number p) n ≡ true → is_needed (frontends_after p (e ∷ [])) (newest_number p) n ≡ true) →
    versions_after p (e ∷ []) ≡ with_said (judging_version p.frontends (newest_number p) e.reply.said) e.reply.said p.versions
versions_said p well e none on =
    let number : ℕ = judging_version p.frontends (newest_number p) e.reply.said in
    let each : with_said number e.reply.said p.versions ≡ map (version_step p e) p.versions = with_said-each number e.reply.said p.versions in
    let test : Version → Bool = λ version. is_needed (frontends_after p (e ∷ [])) (newest_number p) version.number in
    let all : AllByRecursion (λ version. test version ≡ true) (map (version_step p e) p.versions) =
    all-map (λ version. test version ≡ true) (version_step p e) p.versions
    (all-more (λ version. is_needed p.frontends (newest_number p) version.number ≡ true) (λ version. test (version_step p e version) ≡ true) p.versions
    (λ version is. ap (λ v. is_needed (frontends_after p (e ∷ [])) (newest_number p) v.number) (version_step-cursors p e version) ∙ on version.number is) well.needed) in
    versions_quiet p well e none ∙ ap (λ vs. filter test vs) each ∙ filter-all test (map (version_step p e) p.versions) all ∙ sym each

-- What is known of versions stays.

some-map : {X : Type 0} (f : X → X) (o : Option X) → IsSome o → IsSome (option_map f o)
some-map f None is = is
some-map f (Some x) is = refl

version_there : (p : Plain) (e : Entry) (number : ℕ) → IsSome (version_at p.versions number) → IsSome (version_at (map (version_step p e) p.versions) number)
version_there p e number is =
    subst IsSome (sym (version_at-map (version_step p e) (version_step-cursors p e) p.versions number)) (some-map (version_step p e) (version_at p.versions number) is)

-- a version that is needed
pub version_known : (p : Plain) → IsWell p → (e : Entry) (number : ℕ) → IsSome (version_at p.versions number) → needed_after p (e ∷ []) number ≡ true →
    version_at (versions_after p (e ∷ [])) number ≡ version_at (map (version_step p e) p.versions) number
version_known p well e number is needed =
    ap (λ vs. version_at vs number) (versions_step-each p well e)
    ∙ version_at-filter (λ n. is_needed (frontends_after p (e ∷ [])) (in_force (newest_number p) (e ∷ [])) n) (versions_all p e) number needed
    ∙ version_at-with (map (version_step p e) p.versions) (version_of e) number (version_there p e number is)

pub version_stays : (p : Plain) → IsWell p → (e : Entry) (number : ℕ) → IsSome (version_at p.versions number) → needed_after p (e ∷ []) number ≡ true → IsSome (version_at (versions_after p (e ∷ [])) number)
version_stays p well e number is needed = subst IsSome (sym (version_known p well e number is needed)) (version_there p e number is)

-- with the incarnations that it lists
pub tables_of_step : (p : Plain) → IsWell p → (e : Entry) (number : ℕ) → IsSome (version_at p.versions number) → needed_after p (e ∷ []) number ≡ true →
    tables_of (versions_after p (e ∷ [])) number ≡ tables_of p.versions number
tables_of_step p well e number is needed =
    ap (λ o. option_map_or (λ version. version.tables) o []) (version_known p well e number is needed) ∙ tables_of-map (version_step p e) (version_step-cursors p e) p.versions number

-- there is a newest
newest-with : (versions : List Version) (brought : Option (ℕ × Plan)) → IsSome (newest versions) → (w : Version) × (newest (with_version versions brought) ≡ Some w)
newest-with versions None is = by (newest versions) refl is
  where
    by : (o : Option Version) → newest versions ≡ o → IsSome o → (w : Version) × (newest versions ≡ Some w)
    by None there is = absurd (false≢true is)
    by (Some w) there is = (w, there)
newest-with versions (Some (number, plan)) is =
    (next_version number (written_tables (newest versions)) plan, newest-end versions (next_version number (written_tables (newest versions)) plan))

pub newest_stays : (p : Plain) → IsWell p → (e : Entry) → IsSome (newest (versions_after p (e ∷ [])))
newest_stays p well e =
    let some : IsSome (newest (map (version_step p e) p.versions)) =
    subst IsSome (sym (newest-map (version_step p e) p.versions)) (some-map (version_step p e) (newest p.versions) well.last) in
    let force : ℕ = in_force (newest_number p) (e ∷ []) in
    let w = newest-with (map (version_step p e) p.versions) (version_of e) some in
    let last : last_number (versions_all p e) ≡ force =
    last_number-with (map (version_step p e) p.versions) (version_of e)
    ∙ ap (λ n. option_map_or (λ brought. brought.0) (version_of e) n) (last_number-map (version_step p e) (version_step-cursors p e) p.versions) in
    let number : w.0.number ≡ force = sym (ap (λ o. option_map_or (λ version. version.number) o 0) w.1) ∙ last in
    let stays' : newest (versions_after p (e ∷ [])) ≡ Some w.0 =
    ap newest (versions_step-each p well e)
    ∙ newest-filter (λ version. is_needed (frontends_after p (e ∷ [])) force version.number) (versions_all p e) w.0 w.1
    (or_left (w.0.number == force) (list_any (has_version w.0.number) (frontends_after p (e ∷ []))) (eq-eqb w.0.number force number)) in
    subst IsSome (sym stays') refl

-- numbers rise
pub numbers_rise : (p : Plain) → IsWell p → (e : Entry) → IsLegal p (e ∷ []) → Rise (λ version. version.number) (versions_after p (e ∷ []))
numbers_rise p well e legal =
    subst (Rise (λ version. version.number)) (sym (versions_step-each p well e))
    (rise-filter (λ version. version.number) (λ version. is_needed (frontends_after p (e ∷ [])) (in_force (newest_number p) (e ∷ [])) version.number) (versions_all p e) (by (turn p e [] legal)))
  where
    old : List Version
    old = map (version_step p e) p.versions

    same : (version : Version) → (version_step p e version).number ≡ version.number
    same version = ap (λ v. v.number) (version_step-cursors p e version)

    rise : Rise (λ version. version.number) old
    rise = rise-map (λ version. version.number) (version_step p e) same p.versions well.rise

    below : AllByRecursion (λ version. version.number ≤ newest_number p) old
    below =
        all-map (λ version. version.number ≤ newest_number p) (version_step p e) p.versions
        (all-more (λ version. version.number ≤ newest_number p) (λ version. (version_step p e version).number ≤ newest_number p) p.versions (λ version le. rw (same version) le) (versions_below p well))

    by : Turn p e [] → Rise (λ version. version.number) (versions_all p e)
    by (stays none force) = subst (λ b. Rise (λ version. version.number) (with_version old b)) (sym none) rise
    by (turns plan some force) =
        subst (λ b. Rise (λ version. version.number) (with_version old b)) (sym some)
        (rise-append (λ version. version.number) (newest_number p) old (next_version (newest_number p + 1) (written_tables (newest old)) plan ∷ []) rise (tt, tt) below (omega arith, tt))

-- what holds of each version, and of the one that is brought
with-all : (P : Version → Type 0) (versions : List Version) (brought : Option (ℕ × Plan)) → AllByRecursion P versions →
    ((n : ℕ) (plan : Plan) → brought ≡ Some (n, plan) → (before : List (Table × TableId)) → P (next_version n before plan)) → AllByRecursion P (with_version versions brought)
with-all P versions None all new' = all
with-all P versions (Some (n, plan)) all new' = all-append P versions (next_version n (written_tables (newest versions)) plan ∷ []) all (new' n plan refl (written_tables (newest versions)), tt)

pub versions_stay : (P : Version → Type 0) (p : Plain) → IsWell p → (e : Entry) → AllByRecursion (λ version. P (version_step p e version)) p.versions →
    ((n : ℕ) (plan : Plan) → version_of e ≡ Some (n, plan) → (before : List (Table × TableId)) → P (next_version n before plan)) → AllByRecursion P (versions_after p (e ∷ []))
versions_stay P p well e all new' =
    subst (AllByRecursion P) (sym (versions_step-each p well e))
    (all-filter P (λ version. is_needed (frontends_after p (e ∷ [])) (in_force (newest_number p) (e ∷ [])) version.number) (versions_all p e)
    (with-all P (map (version_step p e) p.versions) (version_of e) (all-map P (version_step p e) p.versions all) new'))

next-well : (n : ℕ) (plan : Plan) (before : List (Table × TableId)) → IsVersionWell (next_version n before plan)
next-well n plan before = record {
  tables = length-map (enumerate_from 0 plan.tables) (next_id n before) ∙ length-enumerate_from 0 plan.tables;
  cursors = length-map plan.backends (λ backend. None);
}

pub versions_well : (p : Plain) → IsWell p → (e : Entry) → AllByRecursion IsVersionWell (versions_after p (e ∷ []))
versions_well p well e =
    versions_stay IsVersionWell p well e
    (all-more IsVersionWell (λ version. IsVersionWell (version_step p e version)) p.versions (λ version known. record {
      tables = ap (λ v. length v.tables) (version_step-cursors p e version) ∙ known.tables ∙ sym (ap (λ v. length v.plan.tables) (version_step-cursors p e version));
      cursors = version_said-length (judging_version p.frontends (newest_number p) e.reply.said) e.reply.said version ∙ known.cursors
          ∙ sym (ap (λ v. length v.plan.backends) (version_step-cursors p e version));
    }) well.versions)
    (λ n plan is before. next-well n plan before)

-- each is needed
pub versions_needed : (p : Plain) (e : Entry) →
    AllByRecursion (λ version. is_needed (after p (e ∷ [])).frontends (newest_number (after p (e ∷ []))) version.number ≡ true) (versions_after p (e ∷ []))
versions_needed p e =
    subst (λ n. AllByRecursion (λ version. is_needed (frontends_after p (e ∷ [])) n version.number ≡ true) (versions_after p (e ∷ []))) (sym (newest_after p (e ∷ [])))
    (all-pass (λ version. is_needed (frontends_after p (e ∷ [])) (in_force (newest_number p) (e ∷ [])) version.number) (versions_by (frontends_after p []) (newest_number p) p.versions e))

-- what holds of each plan, and of the one that is brought
pub plans_stay : (P : Plan → Type 0) (p : Plain) → IsWell p → (e : Entry) → AllByRecursion (λ version. P version.plan) p.versions → ((n : ℕ) (plan : Plan) → version_of e ≡ Some (n, plan) → P plan) →
    AllByRecursion (λ version. P version.plan) (versions_after p (e ∷ []))
plans_stay P p well e all new' =
    versions_stay (λ version. P version.plan) p well e
    (all-more (λ version. P version.plan) (λ version. P (version_step p e version).plan) p.versions
    (λ version known. subst P (sym (ap (λ v. v.plan) (version_step-cursors p e version))) known) all)
    (λ n plan is before. new' n plan is)

-- The version of each open row is kept.

pub force-found : (p : Plain) → IsWell p → IsSome (version_at p.versions (newest_number p))
force-found p well =
    let v : (v : Version) × (newest p.versions ≡ Some v) = newest_of p well in
    rw (ap (λ o. option_map_or (λ version. version.number) o 0) v.1, newest-at p.versions v.0 well.rise v.1) refl

-- it was kept before
pub rows_known : (q : Plain) → IsWell q → (e : Entry) → IsLegal q (e ∷ []) → (number : ℕ) (own : FrontendRows) → slice_get q.frontends number ≡ Some own →
    AllByRecursion (λ row. IsSome (version_at q.versions row.version)) (frontend_after q (e ∷ []) number own).rows
rows_known q well e legal number own there =
    let fine : IsFrontendWell q.versions own = well_at q well number own there in
    let P : Row → Type 0 = λ row. IsSome (version_at q.versions row.version) in
    all-map P (row_after q number (e ∷ [])) (filter (λ row. not (has_ended number (e ∷ []) row.serial)) (own.rows ++ arrivals q number (e ∷ [])))
    (all-filter P (λ row. not (has_ended number (e ∷ []) row.serial)) (own.rows ++ arrivals q number (e ∷ []))
    (all-append P own.rows (arrivals q number (e ∷ [])) fine.kept
    (arrival-all P (after q []) number (max q.clock e.moment) (newest_number q) e.event e.reply.said (answered (after q []) e.moment e.event e.reply legal.1) (λ new' real here accepting. force-found q well))))

-- and is needed
pub rows_needed : (q : Plain) (e : Entry) (number : ℕ) (own : FrontendRows) → slice_get q.frontends number ≡ Some own →
    AllByRecursion (λ row. needed_after q (e ∷ []) row.version ≡ true) (frontend_after q (e ∷ []) number own).rows
rows_needed q e number own there =
    open-needed (frontends_after q (e ∷ [])) (in_force (newest_number q) (e ∷ [])) number (frontend_after q (e ∷ []) number own)
    (get-from_zero (frontend_after q (e ∷ [])) q.frontends number own there)

pub rows_kept : (q : Plain) → IsWell q → (e : Entry) → IsLegal q (e ∷ []) → (number : ℕ) (own : FrontendRows) → slice_get q.frontends number ≡ Some own →
    AllByRecursion (λ row. IsSome (version_at (versions_after q (e ∷ [])) row.version)) (frontend_after q (e ∷ []) number own).rows
rows_kept q well e legal number own there =
    let rows : List Row = (frontend_after q (e ∷ []) number own).rows in
    all-more (λ row. IsSome (version_at q.versions row.version) × (needed_after q (e ∷ []) row.version ≡ true)) (λ row. IsSome (version_at (versions_after q (e ∷ [])) row.version)) rows
    (λ row both. version_stays q well e row.version both.0 both.1)
    (all-both (λ row. IsSome (version_at q.versions row.version)) (λ row. needed_after q (e ∷ []) row.version ≡ true) rows (rows_known q well e legal number own there) (rows_needed q e number own there))
