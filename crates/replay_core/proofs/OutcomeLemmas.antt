-- What comes of a script by the state alone is what comes of it over its history.
use Rattle.std.proofs.Common.{◌≡◌, ℕ, ◌+◌, List, [], ◌∷◌, Option, None, Result, Ok, Err, refl, ap, sym, ◌∙◌}
use Rattle.std.proofs.lemmas.List.{append-nil}
use Rattle.text_core.specs.Parts.{parts, is_line_feed}
use Rattle.plan_types.specs.declared.plan.Plan.{Plan}
use Rattle.conn_model.specs.declared.event.OwnedEvent.{OwnedEvent}
use Rattle.conn_model.specs.declared.plain.Plain.{Plain}
use Rattle.conn_model.specs.declared.reply.Reply.{Reply}
use Rattle.conn_model.specs.declared.reply.StepFault.{StepFault}
use Rattle.conn_model.specs.History.{Entry, IsLegal, IsWell, after, answer, counts, entry, opening}
use Rattle.conn_model.proofs.Goes.{whole_in_parts}
use Rattle.conn_model.proofs.Well.{after-nil}
use Rattle.event_text.specs.Script.{Pending}
use Rattle.event_text.specs.Replies.{count_line}
use Rattle.replay_core.specs.Replay.{Asked, ReplayOutcome, after_line, answer_text, asked_at, before_rest, history_after, outcome, script_outcome}
use Rattle.replay_core.specs.Turns.{outcome_in, plain_after, script_outcome_in, turn}
use Rattle.replay_core.specs.Progress.{ReplayProgress, total_of}
use Rattle.replay_core.specs.declared.fault.ReplayFault.{ReplayFault}

-- an answer leaves the state after the history that it leaves
same_after : (p : Plain) (h : List Entry) (moment : ℕ) (event : OwnedEvent) (answered : Result Reply StepFault) (rest : List Entry → ReplayOutcome) (rest_in : Plain → ReplayOutcome)
    → IsWell p → IsLegal p h → ((g : List Entry) → IsLegal p g → rest g ≡ rest_in (after p g)) → answer p h moment event ≡ answered
    → rest (history_after h moment event answered) ≡ rest_in (plain_after (after p h) moment event answered)
same_after p h moment event (Ok reply) rest rest_in well legal next is =
    next (entry moment event reply ∷ h) (legal, is) ∙ ap rest_in (sym (whole_in_parts p well (entry moment event reply ∷ []) h (legal, is)))
same_after p h moment event (Err fault) rest rest_in well legal next is = next h legal

same_line : (p : Plain) (h : List Entry) (asks : Result Asked ReplayFault) (rest : List Entry → Option Pending → ReplayOutcome) (rest_in : Plain → Option Pending → ReplayOutcome)
    → IsWell p → IsLegal p h → ((g : List Entry) (reload : Option Pending) → IsLegal p g → rest g reload ≡ rest_in (after p g) reload) → after_line p h asks rest ≡ turn (after p h) asks rest_in
same_line p h (Err fault) rest rest_in well legal next = refl
same_line p h (Ok (Asked.nothing reload)) rest rest_in well legal next = next h reload legal
same_line p h (Ok (Asked.of_counts ask)) rest rest_in well legal next = ap (before_rest (count_line ask (counts p h ask)) 1) (next h None legal)
same_line p h (Ok (Asked.of_event timed)) rest rest_in well legal next =
    ap (before_rest (answer_text (answer p h timed.0 timed.1)) 1)
    (same_after p h timed.0 timed.1 (answer p h timed.0 timed.1) (λ g. rest g None) (λ q. rest_in q None) well legal (λ g ok. next g None ok) refl)

pub same_outcome : (p : Plain) (h : List Entry) (reload : Option Pending) (before : ℕ) (lines : List (List ℕ)) → IsWell p → IsLegal p h
    → outcome p h reload before lines ≡ outcome_in (after p h) reload before lines
same_outcome p h reload before [] well legal = refl
same_outcome p h reload before (line ∷ lines) well legal =
    same_line p h (asked_at reload (before + 1) line) (λ g next. outcome p g next (before + 1) lines) (λ q next. outcome_in q next (before + 1) lines) well legal
    (λ g next ok. same_outcome p g next (before + 1) lines well ok)

-- what comes of a script where a plan is opened
pub same_script_outcome : (plan : Plan) (script : List ℕ) → IsWell (opening plan 0) → script_outcome plan script ≡ script_outcome_in (opening plan 0) None 0 script
same_script_outcome plan script well =
    same_outcome (opening plan 0) [] None 0 (parts is_line_feed script) well tt ∙ ap (λ p. outcome_in p None 0 (parts is_line_feed script)) (after-nil (opening plan 0) well)

abbrev pub start : Plan → ReplayProgress
start plan = record { plain = opening plan 0; reload = None; before = 0; answered = 0; unsent = [] }

-- in all, after what was written before
pub total_start : (plan : Plan) (sent script : List ℕ) → IsWell (opening plan 0) → total_of sent (start plan) script ≡ before_rest sent 0 (script_outcome plan script)
total_start plan sent script well =
    ap (λ xs. before_rest xs 0 (script_outcome_in (opening plan 0) None 0 script)) (append-nil sent) ∙ ap (before_rest sent 0) (sym (same_script_outcome plan script well))
