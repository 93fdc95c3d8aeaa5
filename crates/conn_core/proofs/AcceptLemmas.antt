-- The answer to an accept, from what is looked up, and the state that it leaves.
use Rattle.std.proofs.Common.{◌≡◌, ℕ, ◌+◌, ◌<◌, ◌^◌, true, List, [], ◌∷◌, ◌++◌, length, Option, Some, Ok, refl, max, ◌∙◌, sym, ap, arith}
use Rattle.std.specs.Prelude.{slice_get, slice_set, nat_lt}
use Rattle.std.proofs.lemmas.Bool.Decides.{nat_tests}
use Rattle.addr_core.specs.PairValue.{PairValue}
use Rattle.plan_types.specs.declared.plan.Frontend.{Frontend}
use Rattle.plan_types.specs.declared.plan.Plan.{Plan}
use Rattle.plan_types.specs.declared.track.Track.{Track}
use Rattle.rule_engine.specs.Meaning.{present}
use Rattle.conn_model.specs.declared.event.ConnId.{ConnId}
use Rattle.conn_model.specs.declared.event.OwnedEvent.TheVariants.{Accept}
use Rattle.conn_model.specs.declared.reply.Reply.{Reply}
use Rattle.conn_model.specs.declared.plain.FrontendRows.{FrontendRows}
use Rattle.conn_model.specs.declared.plain.Listener.{Listener}
use Rattle.conn_model.specs.declared.plain.Phase.TheVariants as phases
use Rattle.conn_model.specs.declared.plain.Plain.{Plain}
use Rattle.conn_model.specs.declared.plain.Row.{Row}
use Rattle.conn_model.specs.declared.plain.Version.{Version}
use Rattle.conn_model.specs.Answer.{accept_answer, admission, answer_in, candidate_at, frontend_in, new_row}
use Rattle.conn_model.specs.History.{by_counter, entry, id_of, identity_of, newest_number, tables_passed, with_said}
use Rattle.conn_model.specs.Words.{newest}
use Rattle.conn_model.proofs.Steps.{after-accept, rows_left}
use Rattle.conn_model.specs.Changes.{with_item}
use Rattle.conn_rows.specs.Stored.{plan_at}
use Rattle.conn_core.specs.declared.entering.SessionStart.{SessionStart}
use Rattle.conn_core.specs.declared.outcome.TrackedOutcome.{TrackedOutcome}
use Rattle.conn_core.specs.declared.outcome.Outcome.{Outcome}
use Rattle.conn_core.specs.declared.outcome.Outcome.TheVariants.{Wait, Offer, Refuse}
use Rattle.conn_core.specs.Changes.{entered, entered_row, settled_versions}
use Rattle.conn_core.specs.Machine.{IsCoreState}
use Rattle.conn_core.specs.Outcome.{reply_by, said_by}
use Rattle.conn_core.proofs.StateLemmas.{IsAfter, brings_none, is_after, plan_is}

-- what the four look-ups of an accept find
pub record Found (p : Plain) (listener : ℕ) (at : Listener) (own : FrontendRows) (version : Version) (frontend : Frontend) : Type 0 where
  pub listens : slice_get p.listeners listener ≡ Some at
  pub there : slice_get p.frontends at.frontend ≡ Some own
  pub newest_is : newest p.versions ≡ Some version
  pub named : frontend_in version.plan own.name ≡ Some frontend

pub answer_is : (p : Plain) (clock listener : ℕ) (real : PairValue) (at : Listener) (own : FrontendRows) (version : Version) (frontend : Frontend) → Found p listener at own version frontend →
    own.serial + 1 < 2 ^ 64 → (reply : Reply) → reply ≡ admission (candidate_at p clock at.frontend real own version frontend) at.accept_proxy real (length own.rows) →
    accept_answer p clock listener real ≡ Ok reply
answer_is p clock listener real at own version frontend found fits reply is =
    let below : nat_lt own.serial 0xFFFF_FFFF_FFFF_FFFF ≡ true = grind (arith, nat_tests, fits) in
    rw (found.listens, found.there, found.newest_is, found.named, below) (ap (λ r. Ok r) (sym is))

-- the row that a decision leaves is the one that its reply leaves
row_is : (p : Plain) (arrival : SessionStart) (tracks : List Track) (outcome : Outcome) (id : ConnId) → arrival.version ≡ newest_number p →
    entered_row p.versions arrival tracks outcome id.serial ≡ rows_left p arrival.accepted arrival.real tracks (said_by id 0 outcome)
row_is p arrival tracks Wait id version = ap (λ v. record (new_row id.serial v arrival.real arrival.accepted) { tracks = by_counter tracks } ∷ []) version
row_is p arrival tracks (Offer offer) id version =
    ap (λ v. offered v (plan_at p.versions v)) version ∙ ap (λ plan. offered (newest_number p) plan) (sym (plan_is p (newest_number p)))
  where
    offered : ℕ → Option Plan → List Row
    offered v plan = record {
      serial = id.serial;
      version = v;
      real = arrival.real;
      accepted = arrival.accepted;
      phase = phases.Offered (record { server = identity_of plan offer.seat.line offer.seat.server offer.seat.to; line = offer.seat.line; judged = offer.seat.judged; failed = [] });
      tracks = by_counter tracks;
    } ∷ []
row_is p arrival tracks (Refuse cause) id version = refl

-- and so are the versions
pub versions_are : (id : ConnId) (used number : ℕ) (outcome : Outcome) (versions : List Version) → settled_versions number outcome versions ≡ with_said number (said_by id used outcome) versions
versions_are id used number Wait versions = refl
versions_are id used number (Offer offer) versions = refl
versions_are id used number (Refuse cause) versions = refl

-- the state once a connection came in
pub accepted : (p : Plain) → IsCoreState p → (moment listener : ℕ) (arrival : SessionStart) (decision : TrackedOutcome) (id : ConnId) (own : FrontendRows) →
    slice_get p.frontends id.frontend ≡ Some own → id.serial ≡ own.serial + 1 → arrival.version ≡ newest_number p → arrival.accepted ≡ max p.clock moment →
    answer_in p moment (Accept listener arrival.real) ≡ Ok (reply_by id 0 decision) →
    IsAfter p (entry moment (Accept listener arrival.real) (reply_by id 0 decision)) (record {
      clock = max p.clock moment;
      listeners = p.listeners;
      frontends = with_item id.frontend (entered p.versions arrival decision) p.frontends;
      versions = settled_versions arrival.version decision.outcome p.versions;
      tables = tables_passed (max p.clock moment) p.frontends p.tables (reply_by id 0 decision);
      down = p.down;
    })
accepted p known moment listener arrival decision id own there next version clock is =
    is_after p known (entry moment (Accept listener arrival.real) (reply_by id 0 decision)) _ (brings_none (entry moment (Accept listener arrival.real) (reply_by id 0 decision)) refl) is
    (rw there (ap (λ vs. state vs (entered_row p.versions arrival tracks decision.outcome (own.serial + 1))) versions ∙ ap (state (with_said (newest_number p) (said_by id 0 decision.outcome) p.versions)) rows ∙ sym (after-accept p known.well moment listener arrival.real (reply_by id 0 decision) id own there (says decision.outcome) next)))
  where
    state : List Version → List Row → Plain
    state vs rs = record {
      clock = max p.clock moment;
      listeners = p.listeners;
      frontends = slice_set p.frontends id.frontend (record own { serial = own.serial + 1; rows = own.rows ++ rs });
      versions = vs;
      tables = tables_passed (max p.clock moment) p.frontends p.tables (reply_by id 0 decision);
      down = p.down;
    }

    versions : settled_versions arrival.version decision.outcome p.versions ≡ with_said (newest_number p) (said_by id 0 decision.outcome) p.versions
    versions = ap (λ n. settled_versions n decision.outcome p.versions) version ∙ versions_are id 0 (newest_number p) decision.outcome p.versions

    tracks : List Track
    tracks = present decision.tracks

    rows : entered_row p.versions arrival tracks decision.outcome (own.serial + 1) ≡ rows_left p (max p.clock moment) arrival.real tracks (said_by id 0 decision.outcome)
    rows =
        ap (entered_row p.versions arrival tracks decision.outcome) (sym next) ∙ row_is p arrival tracks decision.outcome id version
        ∙ ap (λ n. rows_left p n arrival.real tracks (said_by id 0 decision.outcome)) clock

    says : (o : Outcome) → id_of (said_by id 0 o) ≡ Some id
    says Wait = refl
    says (Offer offer) = refl
    says (Refuse cause) = refl
