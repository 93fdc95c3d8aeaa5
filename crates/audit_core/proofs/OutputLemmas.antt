-- What is written of a record is what its history says.
use Rattle.std.proofs.Common.{◌≡◌, ◌⊎◌, inl, inr, ◌+◌, ◌-◌, ℕ, List, [], ◌∷◌, ◌++◌, length, Option, Some, Result, Ok, Err, refl, ap, sym, ◌∙◌, append_assoc, append-nil}
use Rattle.list_core.specs.Each.{◌>>=◌}
use Rattle.text_core.specs.Parts.{parts, is_line_feed}
use Rattle.addr_core.specs.declared.addr.Endpoint.{Endpoint}
use Rattle.plan_types.specs.declared.plan.Plan.{Plan}
use Rattle.config_core.specs.Meaning.{meaning}
use Rattle.config_core.specs.declared.fault.OpenFault.{OpenFault}
use Rattle.conn_model.specs.declared.event.ConnId.{ConnId}
use Rattle.conn_model.specs.declared.event.OwnedEvent.{OwnedEvent}
use Rattle.conn_model.specs.declared.plain.Plain.{Plain}
use Rattle.conn_model.specs.declared.reply.Reply.{Reply}
use Rattle.conn_model.specs.declared.reply.StepFault.{StepFault}
use Rattle.conn_model.specs.History.{Entry, IsLegal, IsWell, answer, entry, opening}
use Rattle.conn_model.proofs.Well.{after-nil}
use Rattle.event_text.specs.Script.{with_text, EventHead}
use Rattle.replay_core.specs.declared.fault.PrintFault.{PrintFault}
use Rattle.replay_core.specs.declared.fault.PrintFault.TheVariants as prints
use Rattle.audit_core.specs.Audit.{fault_text}
use Rattle.audit_core.specs.Check.{IsFaultOf, IsOutside}
use Rattle.audit_core.specs.Ended.{audit_output, counts_text, ended_text, known_after, known_on, line_on, output_by, output_of, plan_output, IsAudited}
use Rattle.audit_core.specs.Line.{event_peer}
use Rattle.audit_core.specs.Printing.{after_right, due_reply, known_with, line_with, nothing_noted, output_in, record_output}
use Rattle.audit_core.specs.Standing.{Standing, after_head, after_line, after_reply, standing_counts, start, verdict_in, IsStarted}
use Rattle.audit_core.specs.Verdict.{counts_from, counts_of, fault_at, head_at, history_on, next_of, next_of_text, reply_at, text_at, verdict, LinePlace}
use Rattle.audit_core.specs.declared.due.Due.TheVariants as dues
use Rattle.audit_core.specs.declared.fault.CheckFault.{CheckFault}
use Rattle.audit_core.specs.declared.fault.CheckKind.{CheckKind}
use Rattle.audit_core.specs.declared.fault.CheckKind.TheVariants.{Format, WrongReply, NoMemory, Read, TooLong, Config}
use Rattle.audit_core.specs.declared.fault.Checked.{Checked}
use Rattle.audit_core.specs.declared.journal.Known.{Known}
use Rattle.audit_core.proofs.EndLemmas.{right_found}
use Rattle.audit_core.proofs.PassLemmas.{same_plan}
use Rattle.audit_core.proofs.VerdictLemmas.{head_standing, pending_with, reply_gives, same_standing, standing, text_standing, verdict_start}

-- no line is written for the lines of an event
output_head : (p : Plain) (h : List Entry) (before : ℕ) (lines : List (List ℕ)) (g : List Entry) (read : Result EventHead CheckFault)
    → ((next : LinePlace) → history_on p h (before + 1) next lines ≡ Ok g → ended_text g ≡ ended_text h ++ output_in (standing p h (before + 1) next) (known_after h) lines)
    → (read >>= λ head. history_on p h (before + 1) (next_of head) lines) ≡ Ok g
    → ended_text g ≡ ended_text h ++ after_right (read >>= λ head. Ok (after_head (standing p h before LinePlace.between) head)) [] (λ t. output_in t (known_after h) lines)
output_head p h before lines g (Err fault) goes_on is = absurd (cc)
output_head p h before lines g (Ok head) goes_on is =
    goes_on (next_of head) is ∙ ap (λ s. ended_text h ++ output_in s (known_after h) lines) (head_standing p h before head)

output_text : (p : Plain) (h : List Entry) (before moment missing : ℕ) (texts lines : List (List ℕ)) (g : List Entry) (read : Result (List ℕ) CheckFault)
    → ((next : LinePlace) → history_on p h (before + 1) next lines ≡ Ok g → ended_text g ≡ ended_text h ++ output_in (standing p h (before + 1) next) (known_after h) lines)
    → (read >>= λ text. history_on p h (before + 1) (next_of_text moment (missing - 1) (texts ++ text ∷ [])) lines) ≡ Ok g
    → ended_text g ≡ ended_text h ++ after_right (read >>= λ text. Ok (after_line (standing p h before (LinePlace.within moment missing texts)) (with_text (pending_with moment missing texts) text))) []
    (λ t. output_in t (known_after h) lines)
output_text p h before moment missing texts lines g (Err fault) goes_on is = absurd (cc)
output_text p h before moment missing texts lines g (Ok text) goes_on is =
    goes_on (next_of_text moment (missing - 1) (texts ++ text ∷ [])) is
    ∙ ap (λ s. ended_text h ++ output_in s (known_after h) lines) (text_standing p h before moment missing texts text)

-- where a reply comes, the line of the connection that it ends is written
abbrev due_output : (ConnId → Option Known) → Option Endpoint → Result Reply StepFault → Result Standing CheckFault → List (List ℕ) → List ℕ
due_output known peer answered next lines =
    after_right next (line_with known (due_reply (dues.Reply peer answered))) (λ t. output_in t (known_with known (due_reply (dues.Reply peer answered))) lines)

output_reply : (p : Plain) (h : List Entry) (before : ℕ) (timed : ℕ × OwnedEvent) (lines : List (List ℕ)) (g : List Entry) (read : Result Reply CheckFault) → IsWell p → IsLegal p h
    → ((reply : Reply) → read ≡ Ok reply → answer p h timed.0 timed.1 ≡ Ok reply)
    → ((reply : Reply) → IsLegal p (entry timed.0 timed.1 reply ∷ h) → history_on p (entry timed.0 timed.1 reply ∷ h) (before + 1) LinePlace.between lines ≡ Ok g
    → ended_text g ≡ ended_text (entry timed.0 timed.1 reply ∷ h)
    ++ output_in (standing p (entry timed.0 timed.1 reply ∷ h) (before + 1) LinePlace.between) (known_after (entry timed.0 timed.1 reply ∷ h)) lines)
    → (read >>= λ reply. history_on p (entry timed.0 timed.1 reply ∷ h) (before + 1) LinePlace.between lines) ≡ Ok g
    → ended_text g ≡ ended_text h
    ++ due_output (known_after h) (event_peer timed.1) (answer p h timed.0 timed.1) (read >>= λ reply. Ok (after_reply (standing p h before (LinePlace.awaiting timed)) reply)) lines
output_reply p h before timed lines g (Err fault) well legal gives next is = absurd (cc)
output_reply p h before timed lines g (Ok reply) well legal gives next is =
    let answered : answer p h timed.0 timed.1 ≡ Ok reply = gives reply refl in
    let peer = event_peer timed.1 in
    let line = line_on (known_after h) peer reply.said in
    let known = known_on (known_after h) peer reply.said in
    next reply (legal, answered) is
    ∙ ap (λ s. (ended_text h ++ line) ++ output_in s known lines) (same_standing p h before timed reply well legal answered)
    ∙ append_assoc (ended_text h) line (output_in (after_reply (standing p h before (LinePlace.awaiting timed)) reply) known lines)
    ∙ ap (λ a. ended_text h ++ due_output (known_after h) peer a (Ok (after_reply (standing p h before (LinePlace.awaiting timed)) reply)) lines) (sym answered)

same_output : (p : Plain) (h : List Entry) (before : ℕ) (next : LinePlace) (lines : List (List ℕ)) (g : List Entry) → IsWell p → IsLegal p h → history_on p h before next lines ≡ Ok g
    → ended_text g ≡ ended_text h ++ output_in (standing p h before next) (known_after h) lines
same_output p h before LinePlace.between [] g well legal is = let same : h ≡ g = cc in ap ended_text (sym same) ∙ sym (append-nil (ended_text h))
same_output p h before (LinePlace.within moment missing texts) [] g well legal is = absurd (cc)
same_output p h before (LinePlace.awaiting timed) [] g well legal is = absurd (cc)
same_output p h before LinePlace.between (line ∷ lines) g well legal is =
    output_head p h before lines g (head_at (before + 1) (length h + 1) line) (λ next more. same_output p h (before + 1) next lines g well legal more) is
same_output p h before (LinePlace.within moment missing texts) (line ∷ lines) g well legal is =
    output_text p h before moment missing texts lines g (text_at (before + 1) line) (λ next more. same_output p h (before + 1) next lines g well legal more) is
same_output p h before (LinePlace.awaiting timed) (line ∷ lines) g well legal is =
    output_reply p h before timed lines g (reply_at (before + 1) (answer p h timed.0 timed.1) line) well legal
    (λ reply right. (reply_gives (before + 1) (answer p h timed.0 timed.1) line reply right).0)
    (λ reply next more. same_output p (entry timed.0 timed.1 reply ∷ h) (before + 1) LinePlace.between lines g well next more) is

-- the output of a right record, by the state alone
record_history : (plan : Plan) (text : List ℕ) (checked : Checked) → IsWell (opening plan 0) → verdict plan text ≡ Ok checked
    → record_output (start (opening plan 0)) text checked ≡ plan_output plan text
record_history plan text checked well is =
    let found = right_found plan text checked is in
    let lines = same_output (opening plan 0) [] 0 LinePlace.between (parts is_line_feed text) found.history well tt found.reads in
    ap (λ c. output_in (start (opening plan 0)) nothing_noted.known (parts is_line_feed text) ++ counts_text c) (sym found.counts)
    ∙ ap (λ xs. xs ++ counts_text (counts_of (opening plan 0) found.history))
    (sym (lines ∙ ap (λ p. output_in (start p) nothing_noted.known (parts is_line_feed text)) (after-nil (opening plan 0) well)))
    ∙ ap (output_of (opening plan 0)) (sym found.reads)

-- the same of a check at the opening of a configuration
pub output_from : (config text : List ℕ) (plan : Plan) (checked : Checked) (s : Standing) → IsStarted config s → meaning config ≡ Ok plan → verdict plan text ≡ Ok checked
    → record_output s text checked ≡ audit_output config text
output_from config text plan checked s started means is =
    let same : started.0 ≡ plan = same_plan config started.0 plan started.1 means in
    let right : verdict started.0 text ≡ Ok checked = ap (λ p. verdict p text) same ∙ is in
    ap (λ t. record_output t text checked) started.3
    ∙ record_history started.0 text checked started.2 right
    ∙ ap (λ m. output_by m text) (sym started.1)

pub counts_from_start : (config text : List ℕ) (plan : Plan) (checked : Checked) (s : Standing) → IsStarted config s → meaning config ≡ Ok plan → verdict plan text ≡ Ok checked
    → standing_counts (verdict_in s (parts is_line_feed text)) ≡ Ok checked
counts_from_start config text plan checked s started means is =
    let same : started.0 ≡ plan = same_plan config started.0 plan started.1 means in
    ap (λ t. standing_counts (verdict_in t (parts is_line_feed text))) started.3
    ∙ sym (verdict_start started.0 text started.2)
    ∙ ap (λ p. verdict p text) same
    ∙ is

-- ---- a text that is wrong

wrong_text : (config text : List ℕ) (plan : Plan) (fault : CheckFault) → meaning config ≡ Ok plan → verdict plan text ≡ Err fault → audit_output config text ≡ fault_text fault
wrong_text config text plan fault means is = ap (λ m. output_by m text) means ∙ by (history_on (opening plan 0) [] 0 LinePlace.between (parts is_line_feed text)) refl is
  where
    by : (found : Result (List Entry) CheckFault) → history_on (opening plan 0) [] 0 LinePlace.between (parts is_line_feed text) ≡ found → counts_from (opening plan 0) found ≡ Err fault
        → plan_output plan text ≡ fault_text fault
    by (Ok history) reads wrong = absurd (cc)
    by (Err other) reads wrong = let same : other ≡ fault = cc in ap (output_of (opening plan 0)) reads ∙ ap fault_text same

fault_by : (config text : List ℕ) (kind : CheckKind) (line : ℕ) → IsFaultOf config text kind line → (IsOutside kind → ⊥) → audit_output config text ≡ fault_text (fault_at line kind)
fault_by config text Format line is inside = wrong_text config text is.0 (fault_at line Format) is.1 is.2
fault_by config text WrongReply line is inside = wrong_text config text is.0 (fault_at line WrongReply) is.1 is.2
fault_by config text TooLong line is inside = wrong_text config text is.0 (fault_at line TooLong) is.1 is.2
fault_by config text NoMemory line is inside = absurd (inside tt)
fault_by config text Read line is inside = absurd (inside tt)
fault_by config text (Config fault) line is inside = ap (λ m. output_by m text) is.1 ∙ ap (λ n. fault_text (fault_at n (Config fault))) (sym is.0)

-- the line of its fault is what is to be written
pub fault_output : (config text : List ℕ) (fault : CheckFault) → IsFaultOf config text fault.kind fault.line → (IsOutside fault.kind → ⊥) → audit_output config text ≡ fault_text fault
fault_output config text fault is inside = fault_by config text fault.kind fault.line is inside

-- ---- a record that is right

pub audited : (config text sent : List ℕ) (held : Option (List ℕ)) (plan : Plan) (checked : Checked) → meaning config ≡ Ok plan → verdict plan text ≡ Ok checked
    → held ≡ Some (sent ++ audit_output config text) → IsAudited config text sent held
audited config text sent held plan checked means is wrote =
    let found = right_found plan text checked is in
    let said = wrote ∙ ap (λ m. Some (sent ++ output_by m text)) means ∙ ap (λ r. Some (sent ++ output_of (opening plan 0) r)) found.reads in
    record { plan = plan; history = found.history; means = means; legal = found.whole.legal; is_record = found.whole.is_record; wrote = said }

-- the configuration has a plan, so no core is refused
pub never_refused : (config : List ℕ) (fault : CheckFault) (f : PrintFault) (plan : Plan) → (fault ≡ fault_at 0 NoMemory) ⊎ ((o : OpenFault) × (fault ≡ fault_at 0 (Config o)) × (meaning config ≡ Err o))
    → (fault.kind ≡ NoMemory → f ≡ prints.NoMemory) → f ≡ prints.Read → meaning config ≡ Ok plan → ⊥
never_refused config fault f plan (inl is) leads read means = let none = leads (ap (λ g. g.kind) is) in let both = sym none ∙ read in cc
never_refused config fault f plan (inr why) leads read means = let both = sym why.2 ∙ means in cc
