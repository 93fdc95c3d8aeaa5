-- How far the playing of a record has come, by the states of the balancers alone.
use Rattle.std.specs.Prelude.{ℕ, ◌+◌, List, [], ◌∷◌, Bool, Option, Some, None, option_and_then, Result, Ok, Err}
use Rattle.list_core.specs.Each.{◌>>=◌}
use Rattle.text_core.specs.Parts.{parts, is_line_feed}
use Rattle.addr_core.specs.declared.addr.Endpoint.{Endpoint}
use Rattle.conn_model.specs.declared.event.OwnedEvent.{OwnedEvent}
use Rattle.conn_model.specs.declared.plain.Plain.{Plain}
use Rattle.conn_model.specs.declared.plain.Version.{Version}
use Rattle.conn_model.specs.declared.reply.Reply.{Reply}
use Rattle.conn_model.specs.declared.reply.StepFault.{StepFault}
use Rattle.conn_model.specs.Answer.{answer_in}
use Rattle.conn_model.specs.History.{Entry, entry, id_of}
use Rattle.event_text.specs.Script.{words_of, EventHead}
use Rattle.audit_core.specs.Record.{numbered_head}
use Rattle.audit_core.specs.Standing.{on_line, Standing}
use Rattle.audit_core.specs.declared.due.Due.{Due}
use Rattle.audit_core.specs.declared.due.Due.TheVariants as dues
use Rattle.audit_core.specs.declared.fault.CheckFault.{CheckFault}
use Rattle.whatif_core.specs.declared.turn.Turn.{Turn}
use Rattle.whatif_core.specs.Deciding.{after_failure_for, after_failure_on, decided_for, decision_on, handed, is_let_in, played, stepped_for}
use Rattle.whatif_core.specs.Reporting.{empty_report, report_with, turn_of, Report}

-- how far the balancer of the record is checked, and the state of the trial
pub record Both : Type 0 where
  pub checked : Standing
  pub trial : Plain

-- ---- the entry that begins at a line

-- an event that is whole on its first line
abbrev pub whole_in : Option EventHead → Option (ℕ × OwnedEvent)
whole_in None = None
whole_in (Some (EventHead.whole timed)) = Some timed
whole_in (Some (EventHead.reload moment count)) = None

abbrev pub event_due : Standing → Due → List ℕ → Option (ℕ × OwnedEvent)
event_due s dues.Event line = whole_in (numbered_head (s.records + 1) (words_of line))
event_due s (dues.Text pending) line = None
event_due s (dues.Reply peer answered) line = None

-- the event that a line hands in
abbrev pub event_at : Standing → List ℕ → Option (ℕ × OwnedEvent)
event_at s line = event_due s s.due line

abbrev pub entry_by : ℕ → OwnedEvent → Result Reply StepFault → Option Entry
entry_by moment event (Ok reply) = Some (entry moment event reply)
entry_by moment event (Err fault) = None

-- the entry that it begins, if the balancer of the record answers its event
abbrev pub entry_at : Standing → List ℕ → Option Entry
entry_at s line = option_and_then (λ timed. entry_by timed.0 timed.1 (answer_in s.plain timed.0 timed.1)) (event_at s line)

-- ---- a line

-- the trial after that entry, where those were the versions of the balancer of the record
abbrev pub trial_with : List Version → Plain → Option Entry → Plain
trial_with recorded trial None = trial
trial_with recorded trial (Some e) = played recorded trial e.moment e.event e.reply.said

-- after a line
abbrev pub both_on : Both → List ℕ → Result Both CheckFault
both_on s line = on_line s.checked line >>= λ next. Ok (record { checked = next; trial = trial_with s.checked.plain.versions s.trial (entry_at s.checked line) })

-- what both decide of the entry that begins at a line
abbrev pub turn_at : Both → List ℕ → Option Turn
turn_at s line = option_and_then (turn_of s.checked.plain s.trial) (entry_at s.checked line)

-- what both decide of an event, after which the balancer of the record is in that state with that answer and the peer of
-- the event
abbrev pub turn_after : Plain → Plain → ℕ → OwnedEvent → Option Endpoint × Reply → Turn
turn_after p trial moment event answered = record {
  moment = moment;
  id = id_of answered.1.said;
  peer = answered.0;
  was = decision_on p event answered.1.said;
  would = decided_for p.versions trial moment event;
  let_in = is_let_in (stepped_for p.versions trial moment event) answered.1.said;
  came = after_failure_on event answered.1.said;
  would_come = after_failure_for p.versions trial moment event;
}

-- the trial after an event that was answered so, where those are the versions of the balancer of the record
abbrev pub handed_after : List Version → Plain → ℕ → OwnedEvent → Option (Option Endpoint × Reply) → Plain
handed_after recorded trial moment event None = trial
handed_after recorded trial moment event (Some answered) = handed recorded trial moment event answered.1.said

-- ---- all lines

abbrev pub report_by : Bool → Plain → Report → Option Entry → Report
report_by summary p t None = t
report_by summary p t (Some e) = report_with summary p t e

abbrev pub report_if_right : Result Standing CheckFault → Report → (Standing → Report) → Report
report_if_right (Err fault) t rest = t
report_if_right (Ok s) t rest = rest s

-- the report of lines, until one of them is wrong
abbrev pub report_on_lines : Bool → Standing → Report → List (List ℕ) → Report
report_on_lines summary s t [] = t
report_on_lines summary s t (line ∷ lines) = report_if_right (on_line s line) t (λ next. report_on_lines summary next (report_by summary s.plain t (entry_at s line)) lines)

-- the report of a text from its beginning
abbrev pub report_of_record : Bool → Both → List ℕ → Report
report_of_record summary s text = report_on_lines summary s.checked (empty_report s.trial) (parts is_line_feed text)
