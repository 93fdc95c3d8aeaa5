-- A legal history keeps what is known of a state, and an opening state has it.
use Rattle.std.specs.Prelude.{ℕ, Bool, not, List, [], map, filter, slice_get, Some, None, IfOk, IfErr, Result, Ok, Err, refl, ◌≡◌, ◌∷◌, ◌++◌}
use Rattle.std.specs.List.{AllByRecursion, enumerate_from}
use Rattle.std.proofs.Common.{sym, ap, ◌∙◌, subst}
use Rattle.std.proofs.lemmas.List.{length-map}
use Rattle.std.proofs.lemmas.List.FromFn.{length-enumerate_from}
use Rattle.plan_types.specs.declared.plan.Frontend.{Frontend}
use Rattle.plan_types.specs.declared.plan.Plan.{Plan}
use Rattle.conn_model.specs.declared.event.OwnedEvent.{OwnedEvent}
use Rattle.conn_model.specs.declared.reply.Reply.{Reply}
use Rattle.conn_model.specs.declared.reply.StepFault.{StepFault}
use Rattle.conn_model.specs.declared.plain.Row.{Row}
use Rattle.conn_model.specs.declared.plain.FrontendRows.{FrontendRows}
use Rattle.conn_model.specs.declared.plain.Plain.{Plain}
use Rattle.conn_model.specs.Answer.{answer_in}
use Rattle.conn_model.specs.Tables.{new_id, IsTrackListed}
use Rattle.conn_model.specs.History.{tracks_of, by_counter, arrivals, has_ended, row_after, frontend_after, tables_of, versions_after, after, answer, entry, Entry, IsFault, IsLegal, IsFrontendWell, IsWell, opening}
use Rattle.conn_model.proofs.Lists.{all-each, all-map, all-from_zero, rise-filter, rise-map}
use Rattle.conn_model.proofs.Parts.{by_counter-twice}
use Rattle.conn_model.proofs.VersionSteps.{newest_stays, numbers_rise, rows_kept, versions_needed, versions_well}
use Rattle.conn_model.proofs.Serials.{FrontendFacts, facts_of, rows_given}
use Rattle.conn_model.proofs.Goes.{legal_rest, well_at, whole_in_parts}
pub use Rattle.conn_model.proofs.Nothing.{after-nil}
use Rattle.conn_model.proofs.TableSteps.{new_tables_well, tables_step}
use Rattle.conn_model.proofs.TrackSteps.{tracks_step}

frontend_step : (q : Plain) → IsWell q → (e : Entry) → IsLegal q (e ∷ []) → (number : ℕ) (own : FrontendRows) → slice_get q.frontends number ≡ Some own →
    IsFrontendWell (versions_after q (e ∷ [])) (frontend_after q (e ∷ []) number own)
frontend_step q well e legal number own there =
    let h : List Entry = e ∷ [] in
    let fine : IsFrontendWell q.versions own = well_at q well number own there in
    let facts : FrontendFacts q h number own = facts_of q h number own there fine legal in
    let live : Row → Bool = λ row. not (has_ended number h row.serial) in
    let rows : List Row = own.rows ++ arrivals q number h in
    record {
      sorted = all-map (λ row. by_counter row.tracks ≡ row.tracks) (row_after q number h) (filter live rows)
          (all-each (λ row. by_counter (row_after q number h row).tracks ≡ (row_after q number h row).tracks) (filter live rows) (λ row. by_counter-twice (row.tracks ++ tracks_of number row.serial h)));
      rise = rise-map (λ row. row.serial) (row_after q number h) (λ row. refl) (filter live rows) (rise-filter (λ row. row.serial) live rows facts.rise);
      given = rows_given q h number own facts;
      kept = rows_kept q well e legal number own there;
    }

-- one step keeps what is known
well_step : (q : Plain) → IsWell q → (e : Entry) → IsLegal q (e ∷ []) → IsWell (after q (e ∷ []))
well_step q well e legal = record {
  frontends = all-from_zero (IsFrontendWell (versions_after q (e ∷ []))) (frontend_after q (e ∷ [])) q.frontends (λ i own there. frontend_step q well e legal i own there);
  rise = numbers_rise q well e legal;
  last = newest_stays q well e;
  needed = versions_needed q e;
  versions = versions_well q well e;
  tables = tables_step q well e legal;
  tracks = tracks_step q well e legal;
}

-- and so does a legal history
pub well_after : (p : Plain) → IsWell p → (h : List Entry) → IsLegal p h → IsWell (after p h)
well_after p well [] legal = subst IsWell (sym (after-nil p well)) well
well_after p well (e ∷ h) legal =
    subst IsWell (whole_in_parts p well (e ∷ []) h legal) (well_step (after p h) (well_after p well h legal.0) e (legal_rest p well (e ∷ []) h legal))

-- an opening state has it
pub opening_well : (plan : Plan) (last : ℕ) → IsWell (opening plan last)
opening_well plan last = record {
  frontends = by plan.frontends;
  rise = (tt, tt);
  last = refl;
  needed = (refl, tt);
  versions = (record { tables = length-map (enumerate_from 0 plan.tables) (new_id 1) ∙ length-enumerate_from 0 plan.tables; cursors = length-map plan.backends (λ backend. None) }, tt);
  tables = new_tables_well plan last;
  tracks = nothing plan.frontends;
}
  where
    by : (frontends : List Frontend) → AllByRecursion (IsFrontendWell (opening plan last).versions) (map (λ frontend. record { name = frontend.name; serial = last; rows = [] }) frontends)
    by [] = tt
    by (frontend ∷ frontends) = (record { rise = tt; given = tt; kept = tt; sorted = tt }, by frontends)

    nothing : (frontends : List Frontend) →
        AllByRecursion (λ (own : FrontendRows). AllByRecursion (λ row. AllByRecursion (IsTrackListed (tables_of (opening plan last).versions row.version) (opening plan last).tables) row.tracks) own.rows)
        (map (λ frontend. record { name = frontend.name; serial = last; rows = [] }) frontends)
    nothing [] = tt
    nothing (frontend ∷ frontends) = (tt, nothing frontends)

-- so has each state after a legal history from an opening
pub history_well : (plan : Plan) (last : ℕ) (h : List Entry) → IsLegal (opening plan last) h → IsWell (after (opening plan last) h)
history_well plan last h legal = well_after (opening plan last) (opening_well plan last) h legal

-- One step, of the state and of the history.

pub reply_after : (q new' : Plain) (result : Result Reply StepFault) (moment : ℕ) (event : OwnedEvent) → IfOk result (λ r. answer_in q moment event ≡ Ok r) →
    IfOk result (λ r. new' ≡ after q (entry moment event r ∷ [])) →
    IfOk result (λ r. (p : Plain) (h : List Entry) → IsWell p → IsLegal p h → q ≡ after p h → (answer p h moment event ≡ Ok r) × (new' ≡ after p (entry moment event r ∷ h)))
reply_after q new' (Err fault) moment event reply now = tt
reply_after q new' (Ok r) moment event reply now = λ p h well legal stands.
    let answer_is : answer p h moment event ≡ Ok r = subst (λ s. answer_in s moment event ≡ Ok r) stands reply in
    (answer_is, now ∙ ap (λ s. after s (entry moment event r ∷ [])) stands ∙ whole_in_parts p well (entry moment event r ∷ []) h (legal, answer_is))

pub fault_after : (q : Plain) (result : Result Reply StepFault) (moment : ℕ) (event : OwnedEvent) → IfErr result (λ f. IsFault event (answer_in q moment event) f) →
    IfErr result (λ f. (p : Plain) (h : List Entry) → q ≡ after p h → IsFault event (answer p h moment event) f)
fault_after q (Ok r) moment event fault = tt
fault_after q (Err f) moment event fault = λ p h stands. subst (λ s. IsFault event (answer_in s moment event) f) stands fault
