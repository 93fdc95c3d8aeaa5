-- The state of a core after one event.
use Rattle.std.proofs.Common.{◌≡◌, ℕ, [], ◌∷◌, List, Bool, true, false, Option, Some, None, Result, Ok, refl, max, sym, ap, subst, append-nil, ◌∙◌}
use Rattle.std.specs.Prelude.{slice_get, slice_set, find, filter, not, map, option_map, ◌==◌, ◌++◌, if◌then◌else◌}
use Rattle.std.specs.List.{enumerate_from, AllByRecursion}
use Rattle.std.specs.Option.{option_map_or}
use Rattle.std.proofs.Math.Path.{fun_ext}
use Rattle.plan_types.specs.declared.plan.Plan.{Plan}
use Rattle.plan_types.specs.Sound.{IsSoundPlan}
use Rattle.config_core.specs.Meaning.{meaning}
use Rattle.config_core.specs.declared.fault.OpenFault.{OpenFault}
use Rattle.conn_model.specs.declared.event.ConnId.{ConnId}
use Rattle.conn_model.specs.declared.event.OwnedEvent.{OwnedEvent}
use Rattle.conn_model.specs.declared.event.OwnedEvent.TheVariants.{Accept, Connected, Reload, Mark}
use Rattle.conn_model.specs.declared.reply.Reply.{Reply}
use Rattle.conn_model.specs.declared.reply.Said.{Said}
use Rattle.conn_model.specs.declared.reply.Said.TheVariants.{Reloaded, Up, Marked}
use Rattle.conn_model.specs.declared.plain.Row.{Row}
use Rattle.conn_model.specs.declared.plain.FrontendRows.{FrontendRows}
use Rattle.conn_model.specs.declared.plain.Listener.{Listener}
use Rattle.conn_model.specs.declared.plain.TableState.{TableState}
use Rattle.conn_model.specs.declared.plain.Version.{Version}
use Rattle.conn_model.specs.declared.plain.Plain.{Plain}
use Rattle.conn_model.specs.Counts.{change_row}
use Rattle.conn_model.specs.Answer.{answer_in, at_moment, reply_of, row_at, row_in, checked_server, mark_answer}
use Rattle.conn_model.specs.History.{after, by_counter, entry, id_of, is_last, judging_version, needed_versions, newest_number, next_version, phase_by, phase_up, plan_in, plan_of, plan_with, tables_passed, tables_with, tracks_at, version_of, with_said, with_version, Entry, marked_by}
use Rattle.plan_types.specs.declared.plan.Table.{Table}
use Rattle.plan_types.specs.declared.track.Track.{Track}
use Rattle.conn_model.specs.Tables.{is_listed_by, is_new, new_table, table_alive, tables_alive, without_tracks, written_tables}
use Rattle.conn_model.specs.Words.{newest}
use Rattle.conn_model.proofs.Goes.{well_at}
use Rattle.conn_model.proofs.Lists.{all-more}
use Rattle.conn_model.proofs.Trackings.{tables_ended, tables_kept}
use Rattle.conn_model.proofs.Well.{after-nil, well_after}
use Rattle.conn_model.proofs.Steps.{after-change, after-end, after-reload, judging-old, last_no_offer, no_version, row_said, versions_kept, IsOfOpen, after-mark}
use Rattle.conn_model.proofs.Versions.{newest-end}
use Rattle.conn_model.proofs.VersionSteps.{plans_stay}
use Rattle.conn_model.specs.Changes.{row_up, with_conn, without_conn}
use Rattle.conn_rows.specs.Needed.{versions_needed}
use Rattle.conn_rows.specs.Stored.{plan_at}
use Rattle.conn_rows.specs.Value.{RowsValue}
use Rattle.conn_core.specs.Changes.{forgotten, row_by, spoken}
use Rattle.conn_core.specs.Machine.{state_of, IsCoreState}
use Rattle.conn_model.specs.declared.event.Health.{Health}
use Rattle.plan_types.specs.declared.plan.Backend.{Backend}
use Rattle.plan_types.specs.declared.plan.Server.{Server}
use Rattle.proxy_types.specs.declared.server.ServerIdentity.{ServerIdentity}
use Rattle.conn_model.specs.Servers.{identity_in}

-- each plan that an entry brings is sound
abbrev pub BringsSound : Entry → Type 0
BringsSound e = (n : ℕ) (plan : Plan) → version_of e ≡ Some (n, plan) → IsSoundPlan plan

-- where there is none
pub brings_none : (e : Entry) → plan_with e.event ≡ None → BringsSound e
brings_none e none n plan is = absurd (let wrong : None ≡ Some (n, plan) = sym (no_version e none) ∙ is in cc)

-- an answered event leaves a state that a core can be in
kept : (q : Plain) → IsCoreState q → (e : Entry) → BringsSound e → answer_in q e.moment e.event ≡ Ok e.reply → IsCoreState (after q (e ∷ []))
kept q known e brings is = record {
  well = well_after q known.well (e ∷ []) (tt, subst (λ s. answer_in s e.moment e.event ≡ Ok e.reply) (sym (after-nil q known.well)) is);
  plans = plans_stay IsSoundPlan q known.well e known.plans brings;
}

-- a state is the one after an entry, and one that a core can be in
pub record IsAfter (q : Plain) (e : Entry) (new' : Plain) : Type 0 where
  pub same : new' ≡ after q (e ∷ [])
  pub known : IsCoreState new'

pub is_after : (q : Plain) → IsCoreState q → (e : Entry) (new' : Plain) → BringsSound e → answer_in q e.moment e.event ≡ Ok e.reply → new' ≡ after q (e ∷ []) → IsAfter q e new'
is_after q known e new' brings is same = record { same = same; known = subst IsCoreState (sym same) (kept q known e brings is) }

-- a state without the versions that are not needed, and without the tables that no other lists
abbrev pub pruned : Plain → Plain
pruned p = record p {
  versions = versions_needed p.frontends p.versions;
  tables = filter (is_listed_by (versions_needed p.frontends p.versions)) p.tables;
}

-- once a connection ended, if one did
abbrev pub pruned_if : Bool → Plain → Plain
pruned_if true p = pruned p
pruned_if false p = p

-- so are the rows
pub pruned_rows : (listeners : List Listener) (last : Bool) (rows : RowsValue) → state_of listeners (forgotten last rows) ≡ pruned_if last (state_of listeners rows)
pruned_rows listeners true rows = refl
pruned_rows listeners false rows = refl

-- the plan of a version is the one by which the replies to its rows are read
pub plan_is : (p : Plain) (n : ℕ) → plan_of p [] n ≡ plan_at p.versions n
plan_is p n = by p.versions
  where
    by : (versions : List Version) → option_map (λ (pair : ℕ × Plan). pair.1) (find {X = ℕ × Plan} (λ pair. pair.0 == n) (map (λ version. (version.number, version.plan)) versions)) ≡ plan_at versions n
    by [] = refl
    by (v ∷ versions) = one (v.number == n) refl (by versions)
      where
        one : (b : Bool) → (v.number == n) ≡ b → option_map (λ (pair : ℕ × Plan). pair.1) (find {X = ℕ × Plan} (λ pair. pair.0 == n) (map (λ version. (version.number, version.plan)) versions)) ≡ plan_at versions n →
            option_map (λ (pair : ℕ × Plan). pair.1) (find {X = ℕ × Plan} (λ pair. pair.0 == n) (map (λ version. (version.number, version.plan)) (v ∷ versions))) ≡ plan_at (v ∷ versions) n
        one true is rest = rw is refl
        one false is rest = rw is rest

-- where a connection is open, its frontend is there
pub frontend_of : (frontends : List FrontendRows) (id : ConnId) (row : Row) → row_at frontends id ≡ Some row → (own : FrontendRows) × (slice_get frontends id.frontend ≡ Some own)
frontend_of frontends id row is = by (slice_get frontends id.frontend) refl
  where
    by : (o : Option FrontendRows) → slice_get frontends id.frontend ≡ o → (own : FrontendRows) × (slice_get frontends id.frontend ≡ Some own)
    by None none = absurd (let wrong : None ≡ Some row = ap (row_in id.serial) (sym none) ∙ is in cc)
    by (Some own) there = (own, there)

-- an event of an open connection comes with no plan
open_no_plan : (event : OwnedEvent) → IsOfOpen event → plan_with event ≡ None
open_no_plan (Accept listener real) old = absurd old
open_no_plan (Mark number n health) old = absurd old
open_no_plan (Reload text) old = absurd old
open_no_plan event old = refl

-- the state once something is said to a connection that is open
pub after_spoken : (p : Plain) → IsCoreState p → (moment : ℕ) (event : OwnedEvent) (id : ConnId) (reply : Reply) (row : Row) → row_at p.frontends id ≡ Some row →
    IsOfOpen event → id_of reply.said ≡ Some id → answer_in p moment event ≡ Ok reply →
    IsAfter p (entry moment event reply) (pruned_if (is_last reply.said) (record {
      clock = max p.clock moment;
      listeners = p.listeners;
      frontends = spoken p.versions event id reply p.frontends;
      versions = with_said row.version reply.said p.versions;
      tables = tables_passed (max p.clock moment) p.frontends p.tables reply;
      down = p.down;
    }))
after_spoken p known moment event id reply row open_now old whom is =
    is_after p known (entry moment event reply) _ (brings_none (entry moment event reply) (open_no_plan event old)) is (by (is_last reply.said) refl)
  where
    own : FrontendRows
    own = (frontend_of p.frontends id row open_now).0

    there : slice_get p.frontends id.frontend ≡ Some own
    there = (frontend_of p.frontends id row open_now).1

    state : List FrontendRows → List Version → Plain
    state frontends versions = record {
      clock = max p.clock moment;
      listeners = p.listeners;
      frontends = frontends;
      versions = versions;
      tables = tables_passed (max p.clock moment) p.frontends p.tables reply;
      down = p.down;
    }

    judges : judging_version p.frontends (newest_number p) reply.said ≡ row.version
    judges = judging-old p.frontends (newest_number p) reply.said id row whom open_now

    changes : row_said p event reply ≡ row_by p.versions event reply
    changes = fun_ext (λ (r : Row). ap (λ plan. record r { phase = phase_by plan event reply.said r.phase; tracks = by_counter (r.tracks ++ reply.tracks.items) }) (plan_is p r.version))

    by : (b : Bool) → is_last reply.said ≡ b → pruned_if b (state (spoken p.versions event id reply p.frontends) (with_said row.version reply.said p.versions)) ≡ after p (entry moment event reply ∷ [])
    by true last =
        let left : List FrontendRows = slice_set p.frontends id.frontend (record own { rows = filter (λ row. not (row.serial == id.serial)) own.rows }) in
        let gone : spoken p.versions event id reply p.frontends ≡ left = rw (last, there) refl in
        ap (λ fs. pruned (state fs (with_said row.version reply.said p.versions))) gone
        ∙ ap (λ vs. pruned (state left vs)) (versions_kept row.version reply.said p.versions (last_no_offer reply.said last))
        ∙ sym (after-end p known.well (entry moment event reply) id own there old whom last)
    by false last =
        let changed : spoken p.versions event id reply p.frontends ≡ slice_set p.frontends id.frontend (record own { rows = change_row id.serial (row_said p event reply) own.rows }) =
        rw (last, there) (ap (λ f. slice_set p.frontends id.frontend (record own { rows = change_row id.serial f own.rows })) (sym changes)) in
        ap (λ fs. state fs (with_said row.version reply.said p.versions)) changed
        ∙ ap (λ n. state (slice_set p.frontends id.frontend (record own { rows = change_row id.serial (row_said p event reply) own.rows })) (with_said n reply.said p.versions)) (sym judges)
        ∙ sym (after-change p known.well (entry moment event reply) id own there old whom last)

-- the state once a connection that is open ended
pub after_last : (p : Plain) → IsCoreState p → (moment : ℕ) (event : OwnedEvent) (id : ConnId) (said : Said) (row : Row) → row_at p.frontends id ≡ Some row →
    IsOfOpen event → id_of said ≡ Some id → is_last said ≡ true → answer_in p moment event ≡ Ok (reply_of said) →
    IsAfter p (entry moment event (reply_of said)) (pruned (record {
      clock = max p.clock moment;
      listeners = p.listeners;
      frontends = without_conn id p.frontends;
      versions = p.versions;
      tables = without_tracks (max p.clock moment) (tracks_at p.frontends id) (at_moment moment p).tables;
      down = p.down;
    }))
after_last p known moment event id said row open_now old whom last is =
    subst (IsAfter p (entry moment event (reply_of said))) same (after_spoken p known moment event id (reply_of said) row open_now old whom is)
  where
    state : List FrontendRows → List Version → List TableState → Plain
    state frontends versions tables = record { clock = max p.clock moment; listeners = p.listeners; frontends = frontends; versions = versions; tables = tables; down = p.down }

    versions : with_said row.version said p.versions ≡ p.versions
    versions = versions_kept row.version said p.versions (last_no_offer said last)

    gone : spoken p.versions event id (reply_of said) p.frontends ≡ without_conn id p.frontends
    gone = rw last refl

    same : pruned_if (is_last said) (state (spoken p.versions event id (reply_of said) p.frontends) (with_said row.version said p.versions) (tables_passed (max p.clock moment) p.frontends p.tables (reply_of said)))
        ≡ pruned (state (without_conn id p.frontends) p.versions (without_tracks (max p.clock moment) (tracks_at p.frontends id) (at_moment moment p).tables))
    same =
        ap (λ b. pruned_if b (state (spoken p.versions event id (reply_of said) p.frontends) (with_said row.version said p.versions) (tables_passed (max p.clock moment) p.frontends p.tables (reply_of said)))) last
        ∙ ap (λ fs. pruned (state fs (with_said row.version said p.versions) (tables_passed (max p.clock moment) p.frontends p.tables (reply_of said)))) gone
        ∙ ap (λ vs. pruned (state (without_conn id p.frontends) vs (tables_passed (max p.clock moment) p.frontends p.tables (reply_of said)))) versions
        ∙ ap (λ ts. pruned (state (without_conn id p.frontends) p.versions ts)) (tables_ended (max p.clock moment) (at_moment moment p).tables p known.well id said whom last)

-- Rows that are changed alike.

rows-alike : (serial : ℕ) (f g : Row → Row) (rows : List Row) → AllByRecursion (λ row. f row ≡ g row) rows → change_row serial f rows ≡ change_row serial g rows
rows-alike serial f g [] same = refl
rows-alike serial f g (row ∷ rows) same = cc (one (row.serial == serial), rows-alike serial f g rows same.1)
  where
    one : (b : Bool) → (if b then f row else row) ≡ (if b then g row else row)
    one true = same.0
    one false = refl

-- the state once the server of a connection that is open took it
pub after_up : (p : Plain) → IsCoreState p → (moment : ℕ) (id : ConnId) (row : Row) → row_at p.frontends id ≡ Some row → answer_in p moment (Connected id) ≡ Ok (reply_of (Up id)) →
    IsAfter p (entry moment (Connected id) (reply_of (Up id))) (record {
      clock = max p.clock moment;
      listeners = p.listeners;
      frontends = with_conn id row_up p.frontends;
      versions = p.versions;
      tables = (at_moment moment p).tables;
      down = p.down;
    })
after_up p known moment id row open_now is =
    subst (IsAfter p (entry moment (Connected id) (reply_of (Up id)))) same (after_spoken p known moment (Connected id) id (reply_of (Up id)) row open_now tt refl is)
  where
    own : FrontendRows
    own = (frontend_of p.frontends id row open_now).0

    there : slice_get p.frontends id.frontend ≡ Some own
    there = (frontend_of p.frontends id row open_now).1

    said_up : Row → Row
    said_up = row_by p.versions (Connected id) (reply_of (Up id))

    each : AllByRecursion (λ r. said_up r ≡ row_up r) own.rows
    each =
        all-more (λ r. by_counter r.tracks ≡ r.tracks) (λ r. said_up r ≡ row_up r) own.rows
        (λ r sorted. ap (λ ts. record r { phase = phase_up r.phase; tracks = ts }) (ap by_counter (append-nil r.tracks) ∙ sorted)) (well_at p known.well id.frontend own there).sorted

    frontends : with_conn id said_up p.frontends ≡ with_conn id row_up p.frontends
    frontends = rw there (ap (λ rows. slice_set p.frontends id.frontend (record own { rows = rows })) (rows-alike id.serial said_up row_up own.rows each))

    state : List FrontendRows → List TableState → Plain
    state fs tables = record { clock = max p.clock moment; listeners = p.listeners; frontends = fs; versions = p.versions; tables = tables; down = p.down }

    same : state (with_conn id said_up p.frontends) (tables_passed (max p.clock moment) p.frontends p.tables (reply_of (Up id))) ≡ state (with_conn id row_up p.frontends) (at_moment moment p).tables
    same = ap (λ fs. state fs (tables_passed (max p.clock moment) p.frontends p.tables (reply_of (Up id)))) frontends ∙ ap (state (with_conn id row_up p.frontends)) (tables_kept (max p.clock moment) (at_moment moment p).tables p (Up id) refl)

-- A reload.

-- a table that begins has no entry
new_alive : (moment : ℕ) (tracks : List Track) (version : ℕ) (places : List (ℕ × Table)) → tables_alive moment tracks (map (new_table version) places) ≡ map (new_table version) places
new_alive moment tracks version [] = refl
new_alive moment tracks version (place ∷ places) = ap (λ ts. new_table version place ∷ ts) (new_alive moment tracks version places)

-- so time makes nothing of it
pub with_alive : (moment : ℕ) (tracks : List Track) (tables : List TableState) (version : Option Version) (brought : Option (ℕ × Plan)) →
    tables_alive moment tracks (tables ++ tables_with version brought) ≡ tables_alive moment tracks tables ++ tables_with version brought
with_alive moment tracks (table ∷ tables) version brought = ap (λ ts. table_alive moment tracks table ∷ ts) (with_alive moment tracks tables version brought)
with_alive moment tracks [] version None = refl
with_alive moment tracks [] version (Some (number, plan)) = new_alive moment tracks number (filter (is_new (written_tables version)) (enumerate_from 0 plan.tables))

-- the number of the version at the end
newest_last : (versions : List Version) (version : Version) → option_map_or (λ (v : Version). v.number) (newest (versions ++ version ∷ [])) 0 ≡ version.number
newest_last versions version = ap (λ (o : Option Version). option_map_or (λ (v : Version). v.number) o 0) (newest-end versions version)

-- the state once a plan came into force
pub after_reload : (p : Plain) → IsCoreState p → (moment number : ℕ) (text : List ℕ) (plan : Plan) → meaning text ≡ Ok plan → IsSoundPlan plan →
    answer_in p moment (Reload text) ≡ Ok (reply_of (Reloaded number)) →
    IsAfter p (entry moment (Reload text) (reply_of (Reloaded number))) (pruned (record {
      clock = max p.clock moment;
      listeners = p.listeners;
      frontends = p.frontends;
      versions = with_version p.versions (Some (number, plan));
      tables = (at_moment moment p).tables ++ tables_with (newest p.versions) (Some (number, plan));
      down = p.down;
    }))
after_reload p known moment number text plan meant sound is =
    is_after p known e _ brings is (ap pruned_to (newest_last p.versions next) ∙ sym (after-reload p known.well moment number text plan meant))
  where
    e : Entry
    e = entry moment (Reload text) (reply_of (Reloaded number))

    next : Version
    next = next_version number (written_tables (newest p.versions)) plan

    pruned_to : ℕ → Plain
    pruned_to force = record {
      clock = max p.clock moment;
      listeners = p.listeners;
      frontends = p.frontends;
      versions = needed_versions p.frontends force (p.versions ++ next ∷ []);
      tables = filter (is_listed_by (needed_versions p.frontends force (p.versions ++ next ∷ []))) ((at_moment moment p).tables ++ tables_with (newest p.versions) (Some (number, plan)));
      down = p.down;
    }

    brings : BringsSound e
    brings n other brought =
        let it : version_of e ≡ Some (number, plan) = ap (λ (r : Result Plan OpenFault). option_map (λ (plan : Plan). (number, plan)) (plan_in r)) meant in
        let both : Some (number, plan) ≡ Some (n, other) = sym it ∙ brought in
        let same : (number, plan) ≡ (n, other) = cc in
        subst IsSoundPlan (ap (λ (pair : ℕ × Plan). pair.1) same) sound

-- A report of a server.

-- its answer
pub mark_answered : (p : Plain) (number n : ℕ) (health : Health) (found : Backend × Server) → checked_server p.versions number n ≡ Some found → mark_answer p number n health ≡ Ok (reply_of (Marked found.1.line health))
mark_answered p number n health found there = rw there refl

-- the state once a server that is checked was reported
pub after_marked : (p : Plain) → IsCoreState p → (moment number n : ℕ) (health : Health) (found : Backend × Server) → checked_server p.versions number n ≡ Some found →
    IsAfter p (entry moment (Mark number n health) (reply_of (Marked found.1.line health)))
    (record p { clock = max p.clock moment; tables = (at_moment moment p).tables; down = marked_by (Some (identity_in found.0 found.1, health)) p.down })
after_marked p known moment number n health found there =
    is_after p known e _ (brings_none e refl) (mark_answered p number n health found there)
    (ap left (sym there) ∙ sym (after-mark p known.well moment number n found.1.line health))
  where
    e : Entry
    e = entry moment (Mark number n health) (reply_of (Marked found.1.line health))

    reported : Backend × Server → ServerIdentity × Health
    reported checked = (identity_in checked.0 checked.1, health)

    left : Option (Backend × Server) → Plain
    left checked = record p { clock = max p.clock moment; tables = (at_moment moment p).tables; down = marked_by (option_map reported checked) p.down }
