-- What both balancers say of the entry that begins at a line.
use Rattle.std.proofs.Common.{◌≡◌, ℕ, ◌+◌, Bool, true, false, List, [], ◌∷◌, Option, Some, None, Result, Ok, Err, refl, ap, sym, ◌∙◌}
use Rattle.std.specs.Prelude.{option_and_then, option_map, is_some, slice_get, ◌==◌, ◌||◌, if◌then◌else◌}
use Rattle.std.specs.Option.{option_map_or}
use Rattle.std.specs.List.{list_any}
use Rattle.std.proofs.lemmas.Bool.{eq-eqb}
use Rattle.list_core.specs.Each.{◌>>=◌}
use Rattle.plan_types.specs.declared.plan.Backend.{Backend}
use Rattle.plan_types.specs.declared.plan.Server.{Server}
use Rattle.conn_model.specs.declared.event.Health.{Health}
use Rattle.conn_model.specs.declared.event.OwnedEvent.{OwnedEvent}
use Rattle.conn_model.specs.declared.event.OwnedEvent.TheVariants.{Accept, Mark}
use Rattle.conn_model.specs.declared.plain.FrontendRows.{FrontendRows}
use Rattle.conn_model.specs.declared.plain.Plain.{Plain}
use Rattle.conn_model.specs.declared.plain.Version.{Version}
use Rattle.conn_model.specs.declared.reply.Reply.{Reply}
use Rattle.conn_model.specs.declared.reply.Said.{Said}
use Rattle.conn_model.specs.declared.reply.Said.TheVariants.{Marked}
use Rattle.conn_model.specs.declared.reply.StepFault.{StepFault}
use Rattle.conn_model.specs.Answer.{answer_in}
use Rattle.conn_model.specs.History.{after, entry, frontends_after, id_of, has_version, is_needed, is_reload, needed_versions, newest_number, Entry}
use Rattle.conn_model.specs.Servers.{identity_in}
use Rattle.conn_model.specs.Words.{newest, or_fault}
use Rattle.conn_model.proofs.Replies.{answered}
use Rattle.conn_model.proofs.Versions.{newest-filter, newest-some}
use Rattle.conn_core.specs.Checked.{checked_numbers}
use Rattle.conn_core.specs.declared.checked.ServerNumbers.{ServerNumbers}
use Rattle.event_text.specs.Script.{event_read, head_read, words_of, EventHead}
use Rattle.event_text.specs.declared.script.EventRequest.{EventRequest}
use Rattle.event_text.specs.declared.script.EventRequest.TheVariants as reads
use Rattle.event_text.specs.declared.script.FirstLine.{FirstLine}
use Rattle.replay_core.specs.Turns.{plain_after}
use Rattle.audit_core.specs.Line.{event_peer}
use Rattle.audit_core.specs.Printing.{due_reply}
use Rattle.audit_core.specs.Record.{numbered_head}
use Rattle.audit_core.specs.Standing.{after_event, after_head, is_between, on_due, on_line, Standing}
use Rattle.audit_core.specs.Verdict.{fault_at, is_too_long}
use Rattle.audit_core.specs.declared.due.Due.{Due}
use Rattle.audit_core.specs.declared.due.Due.TheVariants as dues
use Rattle.audit_core.specs.declared.fault.CheckKind.TheVariants.{Format, TooLong}
use Rattle.whatif_core.specs.Deciding.{after_failure, after_failure_by, closed, decided, decided_by, event_for, is_let_in, numbers_for, taken}
use Rattle.whatif_core.specs.declared.turn.Turn.{Turn}
use Rattle.whatif_core.specs.Lines.{both_on, entry_at, entry_by, event_at, event_due, handed_after, trial_with, turn_after, turn_at, whole_in, Both}
use Rattle.whatif_core.specs.Reporting.{turn_of}
use Rattle.whatif_core.proofs.ReportLemmas.{both_right}

-- ---- a line that hands in no event

none_due : (s : Standing) (line : List ℕ) (due : Due) → is_between due ≡ false → event_due s due line ≡ None
none_due s line dues.Event is = absurd (cc)
none_due s line (dues.Text pending) is = refl
none_due s line (dues.Reply peer answered) is = refl

-- the next line is not the first one of an entry
pub none_between : (s : Standing) (line : List ℕ) → is_between s.due ≡ false → event_at s line ≡ None
none_between s line is = none_due s line s.due is

between_due : (s : Standing) (line : List ℕ) (due : Due) → is_between due ≡ true → event_due s due line ≡ whole_in (numbered_head (s.records + 1) (words_of line))
between_due s line dues.Event is = refl
between_due s line (dues.Text pending) is = absurd (cc)
between_due s line (dues.Reply peer answered) is = absurd (cc)

-- what was read of the first line of an entry
pub event_of_line : (s : Standing) (line piece : List ℕ) (read : Option FirstLine) → is_between s.due ≡ true → option_map (head_read piece) read ≡ numbered_head (s.records + 1) (words_of line)
    → event_at s line ≡ whole_in (option_map (head_read piece) read)
event_of_line s line piece read is reads = between_due s line s.due is ∙ ap whole_in (sym reads)

pub no_turn : (s : Both) (line : List ℕ) → event_at s.checked line ≡ None → None ≡ turn_at s line
no_turn s line none =
    sym (ap (λ e. option_and_then (turn_of s.checked.plain s.trial) (option_and_then (λ timed. entry_by timed.0 timed.1 (answer_in s.checked.plain timed.0 timed.1)) e)) none)

pub line_alone : (s : Both) (line : List ℕ) (next : Standing) → event_at s.checked line ≡ None → on_line s.checked line ≡ Ok next → both_on s line ≡ Ok (record { checked = next; trial = s.trial })
line_alone s line next none step =
    both_right s line next s.trial step
    (sym (ap (λ e. trial_with s.checked.plain.versions s.trial (option_and_then (λ timed. entry_by timed.0 timed.1 (answer_in s.checked.plain timed.0 timed.1)) e)) none))

-- ---- a line that hands in an event

head_taken : (s next : Standing) (timed : ℕ × OwnedEvent) (long : Bool) (found : Option EventHead)
    → ((if long then Err (fault_at (s.lines + 1) TooLong) else or_fault (fault_at (s.lines + 1) Format) found) >>= λ head. Ok (after_head s head)) ≡ Ok next
    → whole_in found ≡ Some timed → next ≡ after_event s timed
head_taken s next timed true found step whole = absurd (cc)
head_taken s next timed false None step whole = absurd (cc)
head_taken s next timed false (Some (EventHead.reload moment count)) step whole = absurd (cc)
head_taken s next timed false (Some (EventHead.whole given)) step whole =
    let first : after_event s given ≡ next = cc in let same : given ≡ timed = cc in sym first ∙ ap (after_event s) same

event_taken : (s next : Standing) (line : List ℕ) (timed : ℕ × OwnedEvent) (due : Due) → on_due s due line ≡ Ok next → event_due s due line ≡ Some timed → next ≡ after_event s timed
event_taken s next line timed dues.Event step given =
    head_taken s next timed (is_too_long (s.lines + 1) line) (numbered_head (s.records + 1) (words_of line)) step given
event_taken s next line timed (dues.Text pending) step given = absurd (cc)
event_taken s next line timed (dues.Reply peer answered) step given = absurd (cc)

-- the state after the line
pub line_taken : (s next : Standing) (line : List ℕ) (timed : ℕ × OwnedEvent) → on_line s line ≡ Ok next → event_at s line ≡ Some timed → next ≡ after_event s timed
line_taken s next line timed step given = event_taken s next line timed s.due step given

-- an event that a line hands in is no reload
pub not_reload : (piece : List ℕ) (request : EventRequest) → is_reload (event_read piece request) ≡ false
not_reload piece (reads.Accept listener real) = refl
not_reload piece event = refl

-- ---- the event of a line, as the trial takes it

-- a report leaves the newest version as it is
same_newest : (p : Plain) (frontends : List FrontendRows) → newest (needed_versions frontends (newest_number p) p.versions) ≡ newest p.versions
same_newest p frontends = by p.versions refl (newest p.versions) refl
  where
    number : Option Version → ℕ
    number version = option_map_or (λ (v : Version). v.number) version 0

    of : (w : Version) → newest p.versions ≡ Some w → newest (needed_versions frontends (newest_number p) p.versions) ≡ Some w
    of w is =
        let force : newest_number p ≡ w.number = ap (λ (o : Option Version). option_map_or (λ (v : Version). v.number) o 0) is in
        newest-filter (λ version. is_needed frontends (newest_number p) version.number) p.versions w is (ap (λ n. (w.number == n) || list_any (has_version w.number) frontends) force ∙ here)
      where
        here : ((w.number == w.number) || list_any (has_version w.number) frontends) ≡ true
        here = ap (λ b. b || list_any (has_version w.number) frontends) (eq-eqb w.number w.number refl)

    by : (versions : List Version) → p.versions ≡ versions → (o : Option Version) → newest p.versions ≡ o → newest (needed_versions frontends (newest_number p) p.versions) ≡ newest p.versions
    by versions all (Some w) is = of w is ∙ sym is
    by [] all None is = rw all refl
    by (version ∷ versions) all None is =
        let some = newest-some version versions in
        absurd (let wrong : None ≡ Some some.0 = sym is ∙ ap newest all ∙ some.1 in cc)

newest_kept : (p : Plain) (moment number k : ℕ) (health : Health) (reply : Reply) → answer_in p moment (Mark number k health) ≡ Ok reply → newest (after p (entry moment (Mark number k health) reply ∷ [])).versions ≡ newest p.versions
newest_kept p moment number k health reply is =
    let got = answered p moment (Mark number k health) reply is in
    said_kept reply.said got.found.1.line got.says
  where
    e : Said → Entry
    e said = entry moment (Mark number k health) (record { said = said; tracks = reply.tracks })

    said_kept : (said : Said) (line : ℕ) → said ≡ Marked line health → newest (after p (e said ∷ [])).versions ≡ newest p.versions
    said_kept said line says = rw says (same_newest p (frontends_after p (e (Marked line health) ∷ [])))

numbers_kept : (p : Plain) (moment number k : ℕ) (health : Health) (reply : Reply) (others : List Version) → answer_in p moment (Mark number k health) ≡ Ok reply →
    numbers_for (after p (entry moment (Mark number k health) reply ∷ [])).versions others number k ≡ numbers_for p.versions others number k
numbers_kept p moment number k health reply others is = ap found (newest_kept p moment number k health reply is)
  where
    found : Option Version → Option ServerNumbers
    found version =
        option_and_then (λ (at : Backend × Server). checked_numbers others (identity_in at.0 at.1))
        (option_and_then (λ (backend : Backend). option_and_then (λ (server : Server). if is_some server.check then Some (backend, server) else None) (slice_get backend.servers k))
        (option_and_then (λ (v : Version). slice_get v.plan.backends number) version))

-- what the trial takes it as is the same before it and after it
same_event : (p : Plain) (moment : ℕ) (event : OwnedEvent) (reply : Reply) (others : List Version) → answer_in p moment event ≡ Ok reply → event_for (after p (entry moment event reply ∷ [])).versions others event ≡ event_for p.versions others event
same_event p moment (Mark number k health) reply others is = ap (option_map (λ (at : ServerNumbers). Mark at.backend at.server health)) (numbers_kept p moment number k health reply others is)
same_event p moment event reply others is = refl

answered_turn : (p trial : Plain) (moment : ℕ) (event : OwnedEvent) (answered : Result Reply StepFault) → is_reload event ≡ false → answer_in p moment event ≡ answered
    → option_map (turn_after (plain_after p moment event answered) trial moment event) (due_reply (dues.Reply (event_peer event) answered)) ≡ option_and_then (turn_of p trial) (entry_by moment event answered)
answered_turn p trial moment event (Err fault) other is = refl
answered_turn p trial moment event (Ok reply) other is =
    rw other
    (ap (λ ev. Some (turn (Ok reply) ev)) (same_event p moment event reply trial.versions is)
    ∙ ap (λ a. Some (turn a (event_for p.versions trial.versions event))) (sym is))
  where
    turn : Result Reply StepFault → Option OwnedEvent → Turn
    turn a taken_as = record {
      moment = moment;
      id = id_of reply.said;
      peer = event_peer event;
      was = decided_by (plain_after p moment event a) event a;
      would = option_and_then (decided trial moment) taken_as;
      let_in = is_let_in (taken trial moment taken_as) reply.said;
      came = after_failure_by event a;
      would_come = option_and_then (after_failure trial moment) taken_as;
    }

answered_trial : (p trial : Plain) (moment : ℕ) (event : OwnedEvent) (answered : Result Reply StepFault) → is_reload event ≡ false → answer_in p moment event ≡ answered
    → handed_after (plain_after p moment event answered).versions trial moment event (due_reply (dues.Reply (event_peer event) answered)) ≡ trial_with p.versions trial (entry_by moment event answered)
answered_trial p trial moment event (Err fault) other is = refl
answered_trial p trial moment event (Ok reply) other is =
    rw other (ap (λ ev. closed moment reply.said (taken trial moment ev)) (same_event p moment event reply trial.versions is))

entry_of_event : (s : Standing) (line : List ℕ) (timed : ℕ × OwnedEvent) → event_at s line ≡ Some timed → entry_at s line ≡ entry_by timed.0 timed.1 (answer_in s.plain timed.0 timed.1)
entry_of_event s line timed given = ap (λ e. option_and_then (λ t. entry_by t.0 t.1 (answer_in s.plain t.0 t.1)) e) given

-- what both decide of it
pub turn_of_line : (s : Both) (next : Standing) (line : List ℕ) (timed : ℕ × OwnedEvent) → event_at s.checked line ≡ Some timed → is_reload timed.1 ≡ false → on_line s.checked line ≡ Ok next
    → option_map (turn_after next.plain s.trial timed.0 timed.1) (due_reply next.due) ≡ turn_at s line
turn_of_line s next line timed given other step =
    let after = line_taken s.checked next line timed step given in
    ap (λ n. option_map (turn_after n.plain s.trial timed.0 timed.1) (due_reply n.due)) after
    ∙ answered_turn s.checked.plain s.trial timed.0 timed.1 (answer_in s.checked.plain timed.0 timed.1) other refl
    ∙ ap (option_and_then (turn_of s.checked.plain s.trial)) (sym (entry_of_event s.checked line timed given))

-- and where that leaves both
pub both_of_line : (s : Both) (next : Standing) (line : List ℕ) (timed : ℕ × OwnedEvent) (trial : Plain) → event_at s.checked line ≡ Some timed → is_reload timed.1 ≡ false
    → on_line s.checked line ≡ Ok next → trial ≡ handed_after next.plain.versions s.trial timed.0 timed.1 (due_reply next.due) → both_on s line ≡ Ok (record { checked = next; trial = trial })
both_of_line s next line timed trial given other step is =
    let after = line_taken s.checked next line timed step given in
    both_right s line next trial step
    (is
    ∙ ap (λ (n : Standing). handed_after n.plain.versions s.trial timed.0 timed.1 (due_reply n.due)) after
    ∙ answered_trial s.checked.plain s.trial timed.0 timed.1 (answer_in s.checked.plain timed.0 timed.1) other refl
    ∙ ap (trial_with s.checked.plain.versions s.trial) (sym (entry_of_event s.checked line timed given)))
