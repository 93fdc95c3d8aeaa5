-- The report of a record is the report of its history.
use Rattle.std.proofs.Common.{◌≡◌, ℕ, ◌+◌, ◌-◌, Bool, true, false, List, [], ◌∷◌, ◌++◌, length, Option, Some, None, Result, Ok, Err, refl, ap, sym, ◌∙◌}
use Rattle.std.specs.Prelude.{◌==◌, option_and_then, if◌then◌else◌}
use Rattle.std.specs.List.{join_with_byte}
use Rattle.list_core.specs.Each.{◌>>=◌}
use Rattle.text_core.specs.Parts.{parts, is_line_feed}
use Rattle.plan_types.specs.declared.plan.Plan.{Plan}
use Rattle.conn_model.specs.declared.event.OwnedEvent.{OwnedEvent}
use Rattle.conn_model.specs.declared.event.OwnedEvent.TheVariants.{Reload}
use Rattle.conn_model.specs.declared.plain.Plain.{Plain}
use Rattle.conn_model.specs.declared.reply.Reply.{Reply}
use Rattle.conn_model.specs.declared.reply.StepFault.{StepFault}
use Rattle.conn_model.specs.Answer.{answer_in}
use Rattle.conn_model.specs.History.{Entry, IsLegal, IsWell, after, answer, entry, opening}
use Rattle.conn_model.specs.Words.{or_fault}
use Rattle.conn_model.proofs.Well.{after-nil}
use Rattle.event_text.specs.Script.{with_text, words_of, EventHead}
use Rattle.audit_core.specs.Record.{numbered_head}
use Rattle.audit_core.specs.Standing.{after_head, after_line, after_reply, start}
use Rattle.audit_core.specs.Verdict.{fault_at, history_on, is_too_long, next_of, next_of_text, reply_at, text_at, LinePlace}
use Rattle.audit_core.specs.declared.fault.CheckFault.{CheckFault}
use Rattle.audit_core.specs.declared.fault.CheckKind.TheVariants.{Format, TooLong}
use Rattle.audit_core.proofs.VerdictLemmas.{head_standing, pending_with, reply_gives, same_standing, standing, text_standing}
use Rattle.whatif_core.specs.Lines.{entry_by, report_of_record, report_by, report_on_lines, report_if_right, whole_in}
use Rattle.whatif_core.specs.Reporting.{history_report, empty_report, Report}

-- the report between two lines, after a history and perhaps lines of an event
abbrev report_at : Bool → Plain → Plain → List Entry → LinePlace → Report
report_at summary p trial h LinePlace.between = history_report summary p trial h
report_at summary p trial h (LinePlace.within moment missing texts) = history_report summary p trial h
report_at summary p trial h (LinePlace.awaiting timed) = report_by summary (after p h) (history_report summary p trial h) (entry_by timed.0 timed.1 (answer p h timed.0 timed.1))

-- a reload tells nothing
reload_report : (summary : Bool) (p : Plain) (t : Report) (moment : ℕ) (text : List ℕ) (answered : Result Reply StepFault) → report_by summary p t (entry_by moment (Reload text) answered) ≡ t
reload_report summary p t moment text (Ok reply) = refl
reload_report summary p t moment text (Err fault) = refl

text_report : (summary : Bool) (p trial : Plain) (h : List Entry) (moment missing : ℕ) (texts : List (List ℕ)) → report_at summary p trial h (next_of_text moment missing texts) ≡ history_report summary p trial h
text_report summary p trial h moment missing texts = by (missing == 0) refl
  where
    by : (b : Bool) → (missing == 0) ≡ b → report_at summary p trial h (next_of_text moment missing texts) ≡ history_report summary p trial h
    by true none =
        rw none
        (reload_report summary (after p h) (history_report summary p trial h) moment (join_with_byte 0x0A texts) (answer p h moment (Reload (join_with_byte 0x0A texts))))
    by false some = rw some refl

report_head : (summary : Bool) (p trial : Plain) (h : List Entry) (before : ℕ) (lines : List (List ℕ)) (g : List Entry) (long : Bool) (found : Option EventHead)
    → ((next : LinePlace) → history_on p h (before + 1) next lines ≡ Ok g → history_report summary p trial g ≡ report_on_lines summary (standing p h (before + 1) next) (report_at summary p trial h next) lines)
    → ((if long then Err (fault_at (before + 1) TooLong) else or_fault (fault_at (before + 1) Format) found) >>= λ head. history_on p h (before + 1) (next_of head) lines) ≡ Ok g
    → history_report summary p trial g
    ≡ report_if_right ((if long then Err (fault_at (before + 1) TooLong) else or_fault (fault_at (before + 1) Format) found) >>= λ head. Ok (after_head (standing p h before LinePlace.between) head)) (history_report summary p trial h)
    (λ next. report_on_lines summary next (report_by summary (after p h) (history_report summary p trial h) (option_and_then (λ timed. entry_by timed.0 timed.1 (answer_in (after p h) timed.0 timed.1)) (whole_in found))) lines)
report_head summary p trial h before lines g true found goes_on is = absurd (cc)
report_head summary p trial h before lines g false None goes_on is = absurd (cc)
report_head summary p trial h before lines g false (Some (EventHead.whole timed)) goes_on is = goes_on (LinePlace.awaiting timed) is
report_head summary p trial h before lines g false (Some (EventHead.reload moment count)) goes_on is =
    goes_on (next_of_text moment count []) is
    ∙ ap (λ t. report_on_lines summary (standing p h (before + 1) (next_of_text moment count [])) t lines) (text_report summary p trial h moment count [])
    ∙ ap (λ s. report_on_lines summary s (history_report summary p trial h) lines) (head_standing p h before (EventHead.reload moment count))

report_text : (summary : Bool) (p trial : Plain) (h : List Entry) (before moment missing : ℕ) (texts lines : List (List ℕ)) (g : List Entry) (read : Result (List ℕ) CheckFault)
    → ((next : LinePlace) → history_on p h (before + 1) next lines ≡ Ok g → history_report summary p trial g ≡ report_on_lines summary (standing p h (before + 1) next) (report_at summary p trial h next) lines)
    → (read >>= λ text. history_on p h (before + 1) (next_of_text moment (missing - 1) (texts ++ text ∷ [])) lines) ≡ Ok g
    → history_report summary p trial g
    ≡ report_if_right (read >>= λ text. Ok (after_line (standing p h before (LinePlace.within moment missing texts)) (with_text (pending_with moment missing texts) text))) (history_report summary p trial h)
    (λ next. report_on_lines summary next (history_report summary p trial h) lines)
report_text summary p trial h before moment missing texts lines g (Err fault) goes_on is = absurd (cc)
report_text summary p trial h before moment missing texts lines g (Ok text) goes_on is =
    let next = next_of_text moment (missing - 1) (texts ++ text ∷ []) in
    goes_on next is
    ∙ ap (λ t. report_on_lines summary (standing p h (before + 1) next) t lines) (text_report summary p trial h moment (missing - 1) (texts ++ text ∷ []))
    ∙ ap (λ s. report_on_lines summary s (history_report summary p trial h) lines) (text_standing p h before moment missing texts text)

report_reply : (summary : Bool) (p trial : Plain) (h : List Entry) (before : ℕ) (timed : ℕ × OwnedEvent) (lines : List (List ℕ)) (g : List Entry) (read : Result Reply CheckFault) → IsWell p → IsLegal p h
    → ((reply : Reply) → read ≡ Ok reply → answer p h timed.0 timed.1 ≡ Ok reply)
    → ((reply : Reply) → IsLegal p (entry timed.0 timed.1 reply ∷ h) → history_on p (entry timed.0 timed.1 reply ∷ h) (before + 1) LinePlace.between lines ≡ Ok g
    → history_report summary p trial g ≡ report_on_lines summary (standing p (entry timed.0 timed.1 reply ∷ h) (before + 1) LinePlace.between) (history_report summary p trial (entry timed.0 timed.1 reply ∷ h)) lines)
    → (read >>= λ reply. history_on p (entry timed.0 timed.1 reply ∷ h) (before + 1) LinePlace.between lines) ≡ Ok g
    → history_report summary p trial g
    ≡ report_if_right (read >>= λ reply. Ok (after_reply (standing p h before (LinePlace.awaiting timed)) reply)) (report_at summary p trial h (LinePlace.awaiting timed))
    (λ next. report_on_lines summary next (report_at summary p trial h (LinePlace.awaiting timed)) lines)
report_reply summary p trial h before timed lines g (Err fault) well legal gives goes_on is = absurd (cc)
report_reply summary p trial h before timed lines g (Ok reply) well legal gives goes_on is =
    let answered : answer p h timed.0 timed.1 ≡ Ok reply = gives reply refl in
    goes_on reply (legal, answered) is
    ∙ ap (λ s. report_on_lines summary s (history_report summary p trial (entry timed.0 timed.1 reply ∷ h)) lines) (same_standing p h before timed reply well legal answered)
    ∙ ap
    (λ a. report_on_lines summary (after_reply (standing p h before (LinePlace.awaiting timed)) reply) (report_by summary (after p h) (history_report summary p trial h) (entry_by timed.0 timed.1 a)) lines)
    (sym answered)

same_report : (summary : Bool) (p trial : Plain) (h : List Entry) (before : ℕ) (next : LinePlace) (lines : List (List ℕ)) (g : List Entry) → IsWell p → IsLegal p h → history_on p h before next lines ≡ Ok g
    → history_report summary p trial g ≡ report_on_lines summary (standing p h before next) (report_at summary p trial h next) lines
same_report summary p trial h before LinePlace.between [] g well legal is = let same : h ≡ g = cc in ap (history_report summary p trial) (sym same)
same_report summary p trial h before (LinePlace.within moment missing texts) [] g well legal is = absurd (cc)
same_report summary p trial h before (LinePlace.awaiting timed) [] g well legal is = absurd (cc)
same_report summary p trial h before LinePlace.between (line ∷ lines) g well legal is =
    report_head summary p trial h before lines g (is_too_long (before + 1) line) (numbered_head (length h + 1) (words_of line))
    (λ next more. same_report summary p trial h (before + 1) next lines g well legal more) is
same_report summary p trial h before (LinePlace.within moment missing texts) (line ∷ lines) g well legal is =
    report_text summary p trial h before moment missing texts lines g (text_at (before + 1) line)
    (λ next more. same_report summary p trial h (before + 1) next lines g well legal more) is
same_report summary p trial h before (LinePlace.awaiting timed) (line ∷ lines) g well legal is =
    report_reply summary p trial h before timed lines g (reply_at (before + 1) (answer p h timed.0 timed.1) line) well legal
    (λ reply right. (reply_gives (before + 1) (answer p h timed.0 timed.1) line reply right).0)
    (λ reply next more. same_report summary p trial (entry timed.0 timed.1 reply ∷ h) (before + 1) LinePlace.between lines g well next more) is

-- from the opening of a plan on
pub report_history : (summary : Bool) (plan : Plan) (trial : Plain) (text : List ℕ) (g : List Entry) → IsWell (opening plan 0) → history_on (opening plan 0) [] 0 LinePlace.between (parts is_line_feed text) ≡ Ok g
    → report_of_record summary (record { checked = start (opening plan 0); trial = trial }) text ≡ history_report summary (opening plan 0) trial g
report_history summary plan trial text g well is =
    sym
    (same_report summary (opening plan 0) trial [] 0 LinePlace.between (parts is_line_feed text) g well tt is
    ∙ ap (λ p. report_on_lines summary (start p) (empty_report trial) (parts is_line_feed text)) (after-nil (opening plan 0) well))
