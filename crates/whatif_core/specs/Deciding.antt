-- What a balancer decides of a connection and of one whose server is out of reach, when two of them differ, and how the
-- trial takes events of the record.
use Rattle.std.specs.Prelude.{ℕ, Bool, true, false, not, List, [], ◌++◌, codes, ◌&&◌, ◌||◌, Option, Some, None, is_some, option_map, option_and_then, Result, Ok, Err, if◌then◌else◌}
use Rattle.std.specs.Str.{bytes_eq}
use Rattle.text_core.specs.Decimal.{decimal}
use Rattle.conn_model.specs.declared.event.ConnId.{ConnId}
use Rattle.conn_model.specs.declared.event.OwnedEvent.{OwnedEvent}
use Rattle.conn_model.specs.declared.event.OwnedEvent.TheVariants.{Accept, Piece, Connected, ConnectFailed, Close, Expire, Reload, Mark}
use Rattle.conn_model.specs.declared.event.Why.TheVariants.{Done}
use Rattle.conn_model.specs.declared.plain.Plain.{Plain}
use Rattle.conn_model.specs.declared.plain.Version.{Version}
use Rattle.conn_model.specs.declared.reply.Cause.{Cause}
use Rattle.conn_model.specs.declared.reply.Cause.TheVariants.{Line, Header, Expired, NoBackend, NoServer}
use Rattle.conn_model.specs.declared.reply.Reply.{Reply}
use Rattle.conn_model.specs.declared.reply.Said.{Said}
use Rattle.conn_model.specs.declared.reply.Said.TheVariants as saids
use Rattle.conn_model.specs.declared.reply.StepFault.{StepFault}
use Rattle.conn_model.specs.Answer.{answer_in, checked_server, row_at}
use Rattle.conn_model.specs.Counts.{server_of}
use Rattle.conn_model.specs.History.{id_of, is_reload}
use Rattle.conn_model.specs.Servers.{identity_in}
use Rattle.conn_core.specs.Checked.{checked_numbers}
use Rattle.conn_core.specs.declared.checked.ServerNumbers.{ServerNumbers}
use Rattle.conn_core.specs.Summaries.{names_of}
use Rattle.conn_laws.specs.Deciding.{is_offer}
use Rattle.event_text.specs.Replies.{cause_text}
use Rattle.replay_core.specs.Turns.{plain_after}
use Rattle.whatif_core.specs.declared.decision.AfterFailure.{AfterFailure}
use Rattle.whatif_core.specs.declared.decision.AfterFailure.TheVariants.{Moved, Ended}
use Rattle.whatif_core.specs.declared.decision.ComparedDecision.{ComparedDecision}
use Rattle.whatif_core.specs.declared.decision.ComparedDecision.TheVariants.{Wait, Offer, Refuse}

-- ---- decisions

-- the names of the backend and of its server that an open connection was offered
abbrev pub offered_at : Plain → ConnId → Option (List ℕ × List ℕ)
offered_at p id = option_map names_of (option_and_then (λ row. server_of row.phase) (row_at p.frontends id))

-- an offer of the server of these names and of that line
abbrev pub offer_of : Option (List ℕ × List ℕ) → ℕ → ComparedDecision
offer_of None line = Offer [] [] line
offer_of (Some names) line = Offer names.0 names.1 line

-- what a reply decides of its connection, which was offered the server of these names
abbrev pub decision_with : Option (List ℕ × List ℕ) → Said → Option ComparedDecision
decision_with names (saids.Wait id used) = Some Wait
decision_with names (saids.Offer id used line server to judged send) = Some (offer_of names line)
decision_with names (saids.Refuse id used cause) = Some (Refuse cause)
decision_with names said = None

-- what a reply decides of its connection, in the state after it
abbrev pub decision_of : Plain → Said → Option ComparedDecision
decision_of p said = decision_with (option_and_then (offered_at p) (id_of said)) said

-- the event says that the server of a connection is out of reach
abbrev pub is_failure : OwnedEvent → Bool
is_failure (ConnectFailed id) = true
is_failure event = false

-- What the reply to an event decides. A connection that is moved from a server out of reach to another one of its backend
-- was decided of before.
abbrev pub decision_on : Plain → OwnedEvent → Said → Option ComparedDecision
decision_on p event said = if is_failure event then None else decision_of p said

abbrev pub decided_by : Plain → OwnedEvent → Result Reply StepFault → Option ComparedDecision
decided_by p event (Ok reply) = decision_on p event reply.said
decided_by p event (Err fault) = None

-- a balancer once an event was handed in; a fault changes nothing
abbrev pub stepped : Plain → ℕ → OwnedEvent → Plain
stepped p moment event = plain_after p moment event (answer_in p moment event)

-- what a balancer decides when an event is handed in, if it decides anything
abbrev pub decided : Plain → ℕ → OwnedEvent → Option ComparedDecision
decided p moment event = decided_by (stepped p moment event) event (answer_in p moment event)

-- ---- connections whose server is out of reach

-- what comes of such a connection by the reply: it is offered another server of its backend, or it ends
abbrev pub failure_outcome : Said → AfterFailure
failure_outcome said = if is_offer said then Moved else Ended

-- the same, if the event says that its server is out of reach
abbrev pub after_failure_on : OwnedEvent → Said → Option AfterFailure
after_failure_on event said = if is_failure event then Some (failure_outcome said) else None

abbrev pub after_failure_by : OwnedEvent → Result Reply StepFault → Option AfterFailure
after_failure_by event (Ok reply) = after_failure_on event reply.said
after_failure_by event (Err fault) = None

-- what a balancer does with the connection when that is handed in, if it answers
abbrev pub after_failure : Plain → ℕ → OwnedEvent → Option AfterFailure
after_failure p moment event = after_failure_by event (answer_in p moment event)

abbrev pub is_moved : Option AfterFailure → Bool
is_moved None = false
is_moved (Some Moved) = true
is_moved (Some Ended) = false

abbrev pub is_ended : Option AfterFailure → Bool
is_ended None = false
is_ended (Some Moved) = false
is_ended (Some Ended) = true

-- the record moved the connection, and the trial ends it
abbrev pub is_lost : Option AfterFailure → Option AfterFailure → Bool
is_lost came would_come = is_moved came && is_ended would_come

-- the record ended the connection, and the trial moves it
abbrev pub is_saved : Option AfterFailure → Option AfterFailure → Bool
is_saved came would_come = is_ended came && is_moved would_come

-- one of the two
abbrev pub is_parted : Option AfterFailure → Option AfterFailure → Bool
is_parted came would_come = is_lost came would_come || is_saved came would_come

-- ---- two decisions

-- two refusals are for the same kind of cause; the numbers of lines are not compared
abbrev pub same_kind : Cause → Cause → Bool
same_kind (Line a) (Line b) = true
same_kind (Header a) (Header b) = true
same_kind Expired Expired = true
same_kind (NoBackend a) (NoBackend b) = true
same_kind (NoServer a) (NoServer b) = true
same_kind one other = false

-- both wait, both are offered a server of a backend of one name, or both are refused for the same kind of cause
abbrev pub alike : ComparedDecision → ComparedDecision → Bool
alike Wait Wait = true
alike (Offer backend server line) (Offer backend2 server2 line2) = bytes_eq backend backend2
alike (Refuse cause) (Refuse cause2) = same_kind cause cause2
alike was would = false

abbrev pub unlike : ComparedDecision → ComparedDecision → Option (ComparedDecision × ComparedDecision)
unlike was would = if alike was would then None else Some (was, would)

-- two decisions, if they are not alike
abbrev pub difference : Option ComparedDecision → Option ComparedDecision → Option (ComparedDecision × ComparedDecision)
difference None would = None
difference (Some was) None = None
difference (Some was) (Some would) = unlike was would

-- two offers of different servers of one backend
abbrev pub is_other_server : ComparedDecision → ComparedDecision → Bool
is_other_server (Offer backend server line) (Offer backend2 server2 line2) = bytes_eq backend backend2 && not (bytes_eq server server2)
is_other_server said other = false

-- both are decisions, and the test holds of them
abbrev pub of_both : (ComparedDecision → ComparedDecision → Bool) → Option ComparedDecision → Option ComparedDecision → Bool
of_both test None would = false
of_both test (Some was) None = false
of_both test (Some was) (Some would) = test was would

-- ---- who is let in

-- a balancer let a connection in: it waits for its header there, or was offered a server, and has not ended
abbrev pub has_let_in : Plain → ConnId → Bool
has_let_in p id = is_some (row_at p.frontends id)

-- a reply of the record refuses a connection that the trial has let in, at the same event or before
abbrev pub is_let_in : Plain → Said → Bool
is_let_in trial (saids.Refuse id used cause) = has_let_in trial id
is_let_in trial said = false

-- ---- events of the record, handed to the trial

-- the server that these numbers name in the newest of the recorded versions: its numbers in the newest of the others
abbrev pub numbers_for : List Version → List Version → ℕ → ℕ → Option ServerNumbers
numbers_for recorded others number n =
    option_and_then (λ found. checked_numbers others (identity_in found.0 found.1)) (checked_server recorded number n)

-- What the trial takes an event of the record as. A report is one of the checked server that is known there by the same
-- names and address, if there is one.
abbrev pub event_for : List Version → List Version → OwnedEvent → Option OwnedEvent
event_for recorded others (Accept listener real) = Some (Accept listener real)
event_for recorded others (Piece id bytes) = Some (Piece id bytes)
event_for recorded others (Connected id) = Some (Connected id)
event_for recorded others (ConnectFailed id) = Some (ConnectFailed id)
event_for recorded others (Close id why) = Some (Close id why)
event_for recorded others (Expire id) = Some (Expire id)
event_for recorded others (Reload text) = Some (Reload text)
event_for recorded others (Mark number n health) =
    option_map (λ at. Mark at.backend at.server health) (numbers_for recorded others number n)

-- a balancer once it took an event, if there is one
abbrev pub taken : Plain → ℕ → Option OwnedEvent → Plain
taken p moment None = p
taken p moment (Some event) = stepped p moment event

-- the trial once it took an event of the record
abbrev pub stepped_for : List Version → Plain → ℕ → OwnedEvent → Plain
stepped_for recorded trial moment event = taken trial moment (event_for recorded trial.versions event)

-- what it decides then, if it decides anything
abbrev pub decided_for : List Version → Plain → ℕ → OwnedEvent → Option ComparedDecision
decided_for recorded trial moment event = option_and_then (decided trial moment) (event_for recorded trial.versions event)

-- and what comes of a connection then, if the event says that its server is out of reach
abbrev pub after_failure_for : List Version → Plain → ℕ → OwnedEvent → Option AfterFailure
after_failure_for recorded trial moment event =
    option_and_then (after_failure trial moment) (event_for recorded trial.versions event)

-- if the reply of the record ends a connection, the trial closes it too; this changes nothing if it is not open
abbrev pub closed : ℕ → Said → Plain → Plain
closed moment (saids.Wait id used) p = p
closed moment (saids.Offer id used line server to judged send) p = p
closed moment (saids.Refuse id used cause) p = stepped p moment (Close id Done)
closed moment (saids.Up id) p = p
closed moment (saids.Closed id why) p = stepped p moment (Close id Done)
closed moment (saids.Reloaded version) p = p
closed moment (saids.Marked line health) p = p

abbrev pub handed : List Version → Plain → ℕ → OwnedEvent → Said → Plain
handed recorded trial moment event said = closed moment said (stepped_for recorded trial moment event)

-- the trial after an event of the record with its reply; a reload of the record is not handed in
abbrev pub played : List Version → Plain → ℕ → OwnedEvent → Said → Plain
played recorded trial moment event said = if is_reload event then trial else handed recorded trial moment event said

-- ---- texts

-- a decision
abbrev pub decision_text : ComparedDecision → List ℕ
decision_text Wait = codes "wait"
decision_text (Offer backend server line) = codes "offer " ++ backend ++ codes "/" ++ server ++ codes " line " ++ decimal line
decision_text (Refuse cause) = codes "refuse " ++ cause_text cause

-- the same, with an offer named by its backend alone
abbrev pub brief_text : ComparedDecision → List ℕ
brief_text Wait = codes "wait"
brief_text (Offer backend server line) = codes "offer " ++ backend
brief_text (Refuse cause) = codes "refuse " ++ cause_text cause

-- what was decided and what would be, in short
abbrev pub pair_text : ComparedDecision × ComparedDecision → List ℕ
pair_text pair = codes "was " ++ brief_text pair.0 ++ codes ", would be " ++ brief_text pair.1
