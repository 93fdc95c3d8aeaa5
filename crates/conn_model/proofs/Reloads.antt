-- What reloads leave as it was.
use Rattle.std.specs.Prelude.{ℕ, Bool, true, false, List, [], map, max, filter, slice_get, Option, Some, None, option_map, Ok, IsSome, refl, ◌+◌, ◌≡◌, ◌==◌, ◌∷◌}
use Rattle.std.specs.List.{AllByRecursion}
use Rattle.std.specs.Option.{option_and_then}
use Rattle.std.proofs.Common.{sym, ap, ◌∙◌, subst}
use Rattle.std.proofs.lemmas.Bool.{eqb-true}
use Rattle.plan_types.specs.declared.plan.Plan.{Plan}
use Rattle.config_core.specs.Binds.{same_binds, SameBinds}
use Rattle.config_core.proofs.BindLemmas.{both_ways}
use Rattle.config_core.specs.Meaning.{meaning}
use Rattle.conn_model.specs.declared.event.ConnId.{ConnId}
use Rattle.conn_model.specs.declared.event.OwnedEvent.{OwnedEvent}
use Rattle.conn_model.specs.declared.event.OwnedEvent.TheVariants.{Reload}
use Rattle.conn_model.specs.declared.reply.Reply.{Reply}
use Rattle.conn_model.specs.declared.reply.Said.{Said}
use Rattle.conn_model.specs.declared.reply.Said.TheVariants.{Reloaded}
use Rattle.conn_model.specs.declared.plain.Row.{Row}
use Rattle.conn_model.specs.declared.plain.FrontendRows.{FrontendRows}
use Rattle.conn_model.specs.declared.plain.TableState.{TableState}
use Rattle.conn_model.specs.declared.plain.Version.{Version}
use Rattle.plan_types.specs.declared.track.TableId.{TableId}
use Rattle.conn_model.specs.Tables.{open_tracks, same_id, table_alive, table_at}
use Rattle.conn_model.proofs.OneTable.{same_id-is, table_at-map, table_by, table_by-entries}
use Rattle.conn_model.specs.declared.plain.Plain.{Plain}
use Rattle.conn_model.specs.Words.{newest, row_at}
use Rattle.conn_model.specs.Answer.{answer_in, at_moment, reply_of, row_in, version_at}
use Rattle.conn_model.specs.History.{after, frontends_after, in_force, is_needed, now_of, number_said, opening, plan_in, plan_with, tables_after, versions_after, entry, Entry, IsFrontendWell, IsLegal, IsWell}
use Rattle.conn_model.proofs.Lists.{all-at, all-found}
use Rattle.conn_model.proofs.Replies.{answered, followed, Followed, Says}
use Rattle.conn_model.proofs.Nothing.{after-nil}
use Rattle.conn_model.proofs.Goes.{legal_rest, whole_in_parts}
use Rattle.conn_model.proofs.Kept.{needed_after}
use Rattle.conn_model.proofs.Versions.{version_at-map}
use Rattle.conn_model.proofs.VersionSteps.{plans_stay, version_known, version_step, version_step-cursors, versions_all, versions_step-each}
use Rattle.conn_model.proofs.TableSteps.{lists, newest-all, passed, table_kept, table_step, tables_all, tables_step-each}
use Rattle.conn_model.proofs.Moments.{table_alive-entries}
use Rattle.conn_model.proofs.Well.{history_well, opening_well, well_after}

-- The answer to a reload.

pub reload_follows : (q : Plain) (moment : ℕ) (text : List ℕ) (reply : Reply) → answer_in q moment (Reload text) ≡ Ok reply →
    (plan : Plan) × (version : Version) × (meaning text ≡ Ok plan) × (newest q.versions ≡ Some version) × (same_binds version.plan plan ≡ true) × (reply ≡ reply_of (Reloaded (version.number + 1)))
reload_follows q moment text reply is =
    let got : Followed (at_moment moment q) text reply = followed (at_moment moment q) text reply is in
    (got.plan, got.version, got.meant, got.newest_is, got.binds, sym got.reply_is)

-- Each version binds what the opening did.

same_refl : (a : Plan) → SameBinds a a
same_refl a bind = ((λ is. is), (λ is. is))

same_both : (a b c : Plan) → SameBinds a b → SameBinds b c → SameBinds a c
same_both a b c one two bind = ((λ is. (two bind).0 ((one bind).0 is)), (λ is. (one bind).1 ((two bind).1 is)))

-- the plan that an answered event brings
brought_binds : (q : Plain) (first : Plan) (event : OwnedEvent) (said : Said) → Says q event said → AllByRecursion (λ version. SameBinds first version.plan) q.versions → (plan : Plan) →
    plan_with event ≡ Some plan → SameBinds first plan
brought_binds q first (Reload text) said says all plan is =
    let it : Some says.plan ≡ Some plan = ap plan_in (sym says.meant) ∙ is in
    let same : says.plan ≡ plan = cc in
    let before : SameBinds first says.version.plan = newest-all (λ version. SameBinds first version.plan) q.versions says.version all says.newest_is in
    let after' : SameBinds says.version.plan says.plan = (both_ways says.version.plan says.plan (same_binds says.version.plan says.plan) refl).0 says.binds in
    subst (SameBinds first) same (same_both first says.version.plan says.plan before after')
brought_binds q first event said says all plan is = absurd (let wrong : None ≡ Some plan = is in cc)

abbrev pub numbered : ℕ → Plan → ℕ × Plan
numbered n plan = (n, plan)

pub with_plan : (event : OwnedEvent) (number : Option ℕ) (n : ℕ) (plan : Plan) → option_and_then (λ m. option_map (numbered m) (plan_with event)) number ≡ Some (numbered n plan) → plan_with event ≡ Some plan
with_plan event None n plan is = absurd (let wrong : None ≡ Some (numbered n plan) = is in cc)
with_plan event (Some m) n plan is = by (plan_with event) refl is
  where
    by : (o : Option Plan) → plan_with event ≡ o → option_map (numbered m) o ≡ Some (numbered n plan) → plan_with event ≡ Some plan
    by None e it = absurd (let wrong : None ≡ Some (numbered n plan) = it in cc)
    by (Some p) e it =
        let same : numbered m p ≡ numbered n plan = let both : Some (numbered m p) ≡ Some (numbered n plan) = it in cc in
        e ∙ ap (λ pair. Some pair.1) same

binds_step : (q : Plain) → IsWell q → (first : Plan) (e : Entry) → IsLegal q (e ∷ []) → AllByRecursion (λ version. SameBinds first version.plan) q.versions →
    AllByRecursion (λ version. SameBinds first version.plan) (versions_after q (e ∷ []))
binds_step q well first e legal all =
    let is : answer_in q e.moment e.event ≡ Ok e.reply = subst (λ s. answer_in s e.moment e.event ≡ Ok e.reply) (after-nil q well) legal.1 in
    plans_stay (SameBinds first) q well e all (λ n plan brings. brought_binds q first e.event e.reply.said (answered q e.moment e.event e.reply is) all plan (with_plan e.event (number_said e.reply.said) n plan brings))

pub binds_stay : (plan : Plan) (last : ℕ) (h : List Entry) → IsLegal (opening plan last) h → AllByRecursion (λ version. SameBinds plan version.plan) (after (opening plan last) h).versions
binds_stay plan last [] legal = (same_refl plan, tt)
binds_stay plan last (e ∷ h) legal =
    let p : Plain = opening plan last in
    let well : IsWell p = opening_well plan last in
    subst (λ s. AllByRecursion (λ version. SameBinds plan version.plan) s.versions) (whole_in_parts p well (e ∷ []) h legal)
    (binds_step (after p h) (well_after p well h legal.0) plan e (legal_rest p well (e ∷ []) h legal) (binds_stay plan last h legal.0))

-- A version that is kept stays as it was written.

found-passes : (test : ℕ → Bool) (versions : List Version) (number : ℕ) (w : Version) → version_at (filter (λ version. test version.number) versions) number ≡ Some w → test number ≡ true
found-passes test [] number w there = absurd (let wrong : None ≡ Some w = there in cc)
found-passes test (v ∷ versions) number w there = by (test v.number) (v.number == number) refl refl (found-passes test versions number w)
  where
    by : (a b : Bool) → test v.number ≡ a → (v.number == number) ≡ b → (version_at (filter (λ version. test version.number) versions) number ≡ Some w → test number ≡ true) → test number ≡ true
    by true true ea eb rest = ap test (sym (eqb-true v.number number eb)) ∙ ea
    by true false ea eb rest = rest (rw (ea, eb) at there)
    by false b ea eb rest = rest (rw ea at there)

written_step : (q : Plain) → IsWell q → (e : Entry) (number : ℕ) (v w : Version) → version_at q.versions number ≡ Some v → version_at (versions_after q (e ∷ [])) number ≡ Some w →
    (w.plan ≡ v.plan) × (w.tables ≡ v.tables)
written_step q well e number v w before now =
    let is : IsSome (version_at q.versions number) = subst IsSome (sym before) refl in
    let needed : needed_after q (e ∷ []) number ≡ true =
    found-passes (λ n. is_needed (frontends_after q (e ∷ [])) (in_force _ (e ∷ [])) n) (versions_all q e) number w (ap (λ vs. version_at vs number) (sym (versions_step-each q well e)) ∙ now) in
    let known : Some w ≡ Some (version_step q e v) =
    sym now ∙ version_known q well e number is needed ∙ version_at-map (version_step q e) (version_step-cursors q e) q.versions number ∙ ap (λ o. option_map (version_step q e) o) before in
    let same : w ≡ version_step q e v = cc in
    (ap (λ u. u.plan) same ∙ ap (λ u. u.plan) (version_step-cursors q e v), ap (λ u. u.tables) same ∙ ap (λ u. u.tables) (version_step-cursors q e v))

pub written_stays : (p : Plain) → IsWell p → (e : Entry) (h : List Entry) → IsLegal p (e ∷ h) → (number : ℕ) (v w : Version) → version_at (after p h).versions number ≡ Some v →
    version_at (after p (e ∷ h)).versions number ≡ Some w → (w.plan ≡ v.plan) × (w.tables ≡ v.tables)
written_stays p well e h legal number v w before now =
    written_step (after p h) (well_after p well h legal.0) e number v w before (ap (λ s. version_at s.versions number) (whole_in_parts p well (e ∷ []) h legal) ∙ now)

-- The version of an open connection is kept.
pub row_version : (plan : Plan) (last : ℕ) (h : List Entry) → IsLegal (opening plan last) h → (id : ConnId) (row : Row) → row_at (after (opening plan last) h).frontends id ≡ Some row →
    IsSome (version_at (after (opening plan last) h).versions row.version)
row_version plan last h legal id row there = by (slice_get q.frontends id.frontend) refl there
  where
    q : Plain
    q = after (opening plan last) h

    by : (o : Option FrontendRows) → slice_get q.frontends id.frontend ≡ o → row_in id.serial o ≡ Some row → IsSome (version_at q.versions row.version)
    by None e found = absurd (let wrong : None ≡ Some row = found in cc)
    by (Some own) e found =
        (all-found (λ r. IsSome (version_at q.versions r.version)) (λ r. r.serial == id.serial) own.rows row
        (all-at (IsFrontendWell q.versions) q.frontends id.frontend own (history_well plan last h legal).frontends e).kept found).0

-- A table that is kept over a reload is as it was.

listed-passes : (test : TableId → Bool) (tables : List TableState) (id : TableId) (w : TableState) → table_at (filter (λ table. test table.id) tables) id ≡ Some w → test id ≡ true
listed-passes test [] id w there = absurd (let wrong : None ≡ Some w = there in cc)
listed-passes test (x ∷ tables) id w there = by (test x.id) (same_id x.id id) refl refl (listed-passes test tables id w)
  where
    by : (a b : Bool) → test x.id ≡ a → same_id x.id id ≡ b → (table_at (filter (λ table. test table.id) tables) id ≡ Some w → test id ≡ true) → test id ≡ true
    by true true ea eb rest = ap test (sym (same_id-is x.id id eb)) ∙ ea
    by true false ea eb rest = rest (rw (ea, eb) at there)
    by false b ea eb rest = rest (rw ea at there)

of_reload : (q : Plain) → IsWell q → (moment : ℕ) (text : List ℕ) (reply : Reply) → answer_in q moment (Reload text) ≡ Ok reply → (id : TableId) (v w : TableState) → table_at q.tables id ≡ Some v →
    table_at (tables_after q (entry moment (Reload text) reply ∷ [])) id ≡ Some w → w ≡ table_alive (max q.clock moment) (open_tracks q.frontends) v
of_reload q well moment text reply is id v w before now =
    let e : Entry = entry moment (Reload text) reply in
    let clock : ℕ = max q.clock moment in
    let f : TableState → TableState = table_step q e in
    let u : TableState = table_alive clock (open_tracks q.frontends) v in
    let same : f u ≡ u = subst (λ r. table_by clock q.frontends r u ≡ u) (followed (at_moment moment q) text reply is).reply_is refl in
    let passes : table_at (passed q e) id ≡ Some u =
    table_at-map (table_alive clock (open_tracks q.frontends)) (table_alive-entries clock (open_tracks q.frontends)) q.tables id ∙ ap (λ o. option_map (table_alive clock (open_tracks q.frontends)) o) before in
    let found : table_at (map f (passed q e)) id ≡ Some u = table_at-map f (table_by-entries clock q.frontends reply) (passed q e) id ∙ ap (λ o. option_map f o) passes ∙ ap (λ t. Some t) same in
    let listed : lists (versions_after q (e ∷ [])) id ≡ true = listed-passes (lists (versions_after q (e ∷ []))) (tables_all q e) id w (ap (λ ts. table_at ts id) (sym (tables_step-each q well e)) ∙ now) in
    let both : Some w ≡ Some u = sym now ∙ table_kept q well e id listed (subst IsSome (sym found) refl) ∙ found in
    cc

pub table_stays : (p : Plain) → IsWell p → (h : List Entry) (moment : ℕ) (text : List ℕ) (reply : Reply) → IsLegal p (entry moment (Reload text) reply ∷ h) → (id : TableId) (v w : TableState) →
    table_at (after p h).tables id ≡ Some v → table_at (after p (entry moment (Reload text) reply ∷ h)).tables id ≡ Some w →
    w ≡ table_alive (now_of p.clock (entry moment (Reload text) reply ∷ h)) (open_tracks (after p h).frontends) v
table_stays p well h moment text reply legal id v w before now =
    of_reload (after p h) (well_after p well h legal.0) moment text reply legal.1 id v w before
    (ap (λ s. table_at s.tables id) (whole_in_parts p well (entry moment (Reload text) reply ∷ []) h legal) ∙ now)
