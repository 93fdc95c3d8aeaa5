-- The report of a history: a line for each decision that differs and each connection that is lost or saved, and the counts.
use Rattle.std.specs.Prelude.{◌≡◌, ◌⊎◌, ℕ, Bool, true, false, List, [], ◌∷◌, ◌++◌, codes, Option, Some, None, is_some, Result, Ok, Err, if◌then◌else◌}
use Rattle.text_core.specs.Decimal.{decimal}
use Rattle.addr_core.specs.Text.{endpoint_text}
use Rattle.addr_core.specs.declared.addr.Endpoint.{Endpoint}
use Rattle.plan_types.specs.declared.plan.Plan.{Plan}
use Rattle.conn_model.specs.declared.event.ConnId.{ConnId}
use Rattle.conn_model.specs.declared.event.OwnedEvent.TheVariants.{Reload}
use Rattle.conn_model.specs.declared.plain.Plain.{Plain}
use Rattle.conn_model.specs.declared.reply.Reply.{Reply}
use Rattle.conn_model.specs.declared.reply.StepFault.{StepFault}
use Rattle.conn_model.specs.declared.reply.StepFault.TheVariants.{NotDue}
use Rattle.conn_model.specs.Answer.{answer_in}
use Rattle.conn_model.specs.History.{Entry, after, id_of, is_reload, opening}
use Rattle.conn_model.specs.Words.{is_conn}
use Rattle.event_text.specs.Script.{id_text}
use Rattle.audit_core.specs.Line.{event_peer}
use Rattle.replay_core.specs.Turns.{plain_after}
use Rattle.whatif_core.specs.declared.decision.ComparedDecision.{ComparedDecision}
use Rattle.whatif_core.specs.declared.decision.ComparedDecision.TheVariants.{Wait, Offer, Refuse}
use Rattle.whatif_core.specs.declared.turn.Turn.{Turn}
use Rattle.whatif_core.specs.Deciding.{after_failure, after_failure_for, decided, decided_for, decision_text, difference, is_let_in, is_lost, is_parted, is_saved, played, stepped_for}
use Rattle.whatif_core.specs.Sums.{no_sums, sums_text, sums_with, Sums}

-- ---- one entry

-- what both balancers decide of an entry, in their states before it
abbrev pub turn_with : Plain → Plain → Entry → Turn
turn_with p trial e = record {
  moment = e.moment;
  id = id_of e.reply.said;
  peer = event_peer e.event;
  was = decided p e.moment e.event;
  would = decided_for p.versions trial e.moment e.event;
  let_in = is_let_in (stepped_for p.versions trial e.moment e.event) e.reply.said;
  came = after_failure p e.moment e.event;
  would_come = after_failure_for p.versions trial e.moment e.event;
}

-- a reload decides nothing of a connection
abbrev pub turn_of : Plain → Plain → Entry → Option Turn
turn_of p trial e = if is_reload e.event then None else Some (turn_with p trial e)

-- ---- the peers of the connections that wait for their header

-- the peer that an accept brings, or the one that is known
abbrev pub real_of : Option Endpoint → Option Endpoint → Option Endpoint
real_of None known = known
real_of (Some peer) known = Some peer

-- that peer, if the connection waits
abbrev pub waiting : Option ComparedDecision → Option Endpoint → Option Endpoint
waiting None peer = None
waiting (Some Wait) peer = peer
waiting (Some (Offer backend server line)) peer = None
waiting (Some (Refuse cause)) peer = None

-- that is known of the connection, and of the others what was
abbrev pub with_peer : ConnId → Option Endpoint → (ConnId → Option Endpoint) → ConnId → Option Endpoint
with_peer id peer peers other = if is_conn other.frontend other.serial id then peer else peers other

abbrev pub peers_by : (ConnId → Option Endpoint) → Option ConnId → Turn → ConnId → Option Endpoint
peers_by peers None turn = peers
peers_by peers (Some id) turn = with_peer id (waiting turn.was (real_of turn.peer (peers id))) peers

-- the peers after what was decided
abbrev pub peers_on : (ConnId → Option Endpoint) → Turn → ConnId → Option Endpoint
peers_on peers turn = peers_by peers turn.id turn

-- ---- lines

abbrev pub real_text : Option Endpoint → List ℕ
real_text None = []
real_text (Some peer) = codes " real " ++ endpoint_text peer

-- the connection, the moment, and the peer
abbrev pub where_text : ℕ → ConnId → Option Endpoint → List ℕ
where_text moment id real = codes "conn " ++ id_text id ++ codes " at " ++ decimal moment ++ real_text real

abbrev pub decisions_text : ComparedDecision × ComparedDecision → List ℕ
decisions_text pair = codes ": was " ++ decision_text pair.0 ++ codes ", would be " ++ decision_text pair.1 ++ codes "\n"

-- the line of two decisions on a connection that differ
abbrev pub difference_line : ℕ → ConnId → Option Endpoint → ComparedDecision × ComparedDecision → List ℕ
difference_line moment id real pair = where_text moment id real ++ decisions_text pair

abbrev pub line_by : (ConnId → Option Endpoint) → Turn → Option ConnId → Option (ComparedDecision × ComparedDecision) → List ℕ
line_by peers turn None pair = []
line_by peers turn (Some id) None = []
line_by peers turn (Some id) (Some pair) = difference_line turn.moment id (real_of turn.peer (peers id)) pair

-- the line of a connection that is lost or saved; its peer is not known any more
abbrev pub parting_text : ℕ → ConnId → Bool → Bool → List ℕ
parting_text moment id true saved = where_text moment id None ++ codes ": was moved, would be closed failed\n"
parting_text moment id false true = where_text moment id None ++ codes ": was closed failed, would be moved\n"
parting_text moment id false false = []

abbrev pub parting_by : Turn → Option ConnId → List ℕ
parting_by turn None = []
parting_by turn (Some id) =
    parting_text turn.moment id (is_lost turn.came turn.would_come) (is_saved turn.came turn.would_come)

-- The line of what both decided, if that differs, or that of a connection that is lost or saved. Where a server is out of
-- reach nothing is decided, so there is one of them at the most.
abbrev pub turn_line : (ConnId → Option Endpoint) → Turn → List ℕ
turn_line peers turn =
    line_by peers turn turn.id (difference turn.was turn.would) ++ parting_by turn turn.id

-- a summary leaves the lines out
abbrev pub shown : Bool → List ℕ → List ℕ
shown summary line = if summary then [] else line

-- ---- a history

-- the report so far: the state of the trial, the peers of the connections that wait, the lines, and the counts
pub record Report : Type 0 where
  pub trial : Plain
  pub peers : ConnId → Option Endpoint
  pub text : List ℕ
  pub sums : Sums

-- the report of no entry
abbrev pub empty_report : Plain → Report
empty_report trial = record { trial = trial; peers = λ id. None; text = []; sums = no_sums }

abbrev pub report_of_turn : Bool → Plain → Report → Option Turn → Report
report_of_turn summary next t None = record { trial = next; peers = t.peers; text = t.text; sums = t.sums }
report_of_turn summary next t (Some turn) = record {
  trial = next;
  peers = peers_on t.peers turn;
  text = t.text ++ shown summary (turn_line t.peers turn);
  sums = sums_with t.sums turn;
}

-- the report with an entry more, before which the balancer of the record was in that state
abbrev pub report_with : Bool → Plain → Report → Entry → Report
report_with summary p t e = report_of_turn summary (played p.versions t.trial e.moment e.event e.reply.said) t (turn_of p t.trial e)

-- the report of a history of the balancer of the record, from these states on
abbrev pub history_report : Bool → Plain → Plain → List Entry → Report
history_report summary p trial [] = empty_report trial
history_report summary p trial (e ∷ h) = report_with summary (after p h) (history_report summary p trial h) e

-- the differences along a history, in the order of the record
abbrev pub differences_text : Plain → Plain → List Entry → List ℕ
differences_text p trial h = (history_report false p trial h).text

-- the connection on which both decided otherwise
abbrev pub differs_of : Option Turn → Option ConnId
differs_of None = None
differs_of (Some turn) = if is_some (difference turn.was turn.would) then turn.id else None

-- the connection that has a difference at the last entry of a history
abbrev pub differs_at : Plain → Plain → List Entry → Option ConnId
differs_at p trial [] = None
differs_at p trial (e ∷ h) = differs_of (turn_of (after p h) (history_report false p trial h).trial e)

-- and one that had a difference in the history
abbrev pub HasDiffered : Plain → Plain → ConnId → List Entry → Type 0
HasDiffered p trial id [] = ⊥
HasDiffered p trial id (e ∷ h) = (differs_at p trial (e ∷ h) ≡ Some id) ⊎ HasDiffered p trial id h

-- the connection that is lost or saved
abbrev pub parted_of : Option Turn → Option ConnId
parted_of None = None
parted_of (Some turn) = if is_parted turn.came turn.would_come then turn.id else None

-- the connection that is lost or saved at the last entry of a history
abbrev pub parted_at : Plain → Plain → List Entry → Option ConnId
parted_at p trial [] = None
parted_at p trial (e ∷ h) = parted_of (turn_of (after p h) (history_report false p trial h).trial e)

-- and one that was lost or saved in the history
abbrev pub HasParted : Plain → Plain → ConnId → List Entry → Type 0
HasParted p trial id [] = ⊥
HasParted p trial id (e ∷ h) = (parted_at p trial (e ∷ h) ≡ Some id) ⊎ HasParted p trial id h

-- An entry on a connection is seen in the report: the trial decides too, or moves or ends the connection where its server
-- is out of reach, or the connection has had a difference before, or was lost or saved before, or the time for its header
-- is not over there.
abbrev pub IsSeen : Plain → Plain → ConnId → Entry → List Entry → Type 0
IsSeen p trial id e h =
    (is_some (decided (history_report false p trial h).trial e.moment e.event) ≡ true)
    ⊎ ((is_some (after_failure (history_report false p trial h).trial e.moment e.event) ≡ true)
    ⊎ (HasDiffered p trial id h
    ⊎ (HasParted p trial id h
    ⊎ (answer_in (history_report false p trial h).trial e.moment e.event ≡ Err NotDue))))

-- what is written: the lines, and then the counts
abbrev pub written_of : Report → List ℕ
written_of t = t.text ++ sums_text t.sums

-- ---- the trial

abbrev pub opened_by : Plain → List ℕ → Result Reply StepFault → Result Plain StepFault
opened_by p text (Ok reply) = Ok (plain_after p 0 (Reload text) (Ok reply))
opened_by p text (Err fault) = Err fault

-- the opening of a plan, which that text replaces at once
abbrev pub trial_opening : Plan → List ℕ → Result Plain StepFault
trial_opening plan text = opened_by (opening plan 0) text (answer_in (opening plan 0) 0 (Reload text))
