-- What a check says by the state alone is what it says over the history.
use Rattle.std.proofs.Common.{◌≡◌, ℕ, ◌+◌, ◌-◌, Bool, true, false, List, [], ◌∷◌, ◌++◌, length, Result, Ok, Err, refl, ap, sym, ◌∙◌, append_assoc, append-nil, arith}
use Rattle.std.specs.Prelude.{nat_eq, nat_lt, ◌==◌, codes, if◌then◌else◌}
use Rattle.std.specs.List.{join_with_byte, starts_with}
use Rattle.std.specs.Str.{bytes_eq}
use Rattle.std.proofs.lemmas.Bool.Decides.{nat_tests}
use Rattle.list_core.specs.Each.{◌>>=◌}
use Rattle.text_core.specs.Parts.{parts, is_line_feed}
use Rattle.plan_types.specs.declared.plan.Plan.{Plan}
use Rattle.conn_model.specs.declared.event.OwnedEvent.{OwnedEvent}
use Rattle.conn_model.specs.declared.event.OwnedEvent.TheVariants.{Reload}
use Rattle.conn_model.specs.declared.plain.Plain.{Plain}
use Rattle.conn_model.specs.declared.reply.Reply.{Reply}
use Rattle.conn_model.specs.declared.reply.StepFault.{StepFault}
use Rattle.conn_model.specs.History.{Entry, IsLegal, IsWell, after, answer, entry, opening}
use Rattle.conn_model.proofs.Goes.{whole_in_parts}
use Rattle.conn_model.proofs.Well.{after-nil}
use Rattle.replay_core.specs.Turns.{plain_after}
use Rattle.audit_core.specs.Record.{recorded_reply, reply_mark}
use Rattle.event_text.specs.Script.{ended_lines, pending_reload, with_text, EventHead, Pending}
use Rattle.audit_core.specs.Line.{event_peer}
use Rattle.audit_core.specs.Verdict.{counts_from, head_at, history_on, is_too_long, next_of, next_of_text, reply_at, right_reply, text_at, verdict, LinePlace}
use Rattle.audit_core.specs.Standing.{Standing, after_head, after_line, after_reply, standing_counts, start, verdict_in}
use Rattle.audit_core.specs.declared.due.Due.TheVariants as dues
use Rattle.audit_core.specs.declared.fault.CheckFault.{CheckFault}

abbrev said_ok : Reply → Result Reply StepFault
said_ok reply = Ok reply

-- a reply that is right is the answer
right_gives : (at : ℕ) (answered : Result Reply StepFault) (line : List ℕ) (reply : Reply) → right_reply at answered line ≡ Ok reply
    → (answered ≡ Ok reply) × (bytes_eq line (recorded_reply reply) ≡ true)
right_gives at (Err fault) line reply is = absurd (cc)
right_gives at (Ok said) line reply is = by (bytes_eq line (recorded_reply said)) refl
  where
    by : (b : Bool) → bytes_eq line (recorded_reply said) ≡ b → (said_ok said ≡ said_ok reply) × (bytes_eq line (recorded_reply reply) ≡ true)
    by true same = let it = rw same at is in let eq : said ≡ reply = cc in (ap said_ok eq, ap (λ r. bytes_eq line (recorded_reply r)) (sym eq) ∙ same)
    by false differs = let wrong = rw differs at is in absurd (cc)

pub reply_gives : (at : ℕ) (answered : Result Reply StepFault) (line : List ℕ) (reply : Reply) → reply_at at answered line ≡ Ok reply
    → (answered ≡ Ok reply) × (bytes_eq line (recorded_reply reply) ≡ true)
reply_gives at answered line reply is = by (is_too_long at line) refl (starts_with nat_eq line reply_mark) refl
  where
    by : (a : Bool) → is_too_long at line ≡ a → (b : Bool) → starts_with nat_eq line reply_mark ≡ b → (answered ≡ Ok reply) × (bytes_eq line (recorded_reply reply) ≡ true)
    by true long b marked = let wrong = rw long at is in absurd (cc)
    by false short false marked = let wrong = rw (short, marked) at is in absurd (cc)
    by false short true marked = let right : right_reply at answered line ≡ Ok reply = rw (short, marked) at is in right_gives at answered line reply right

-- ---- the text of a reload

-- one line more, with its end
ended_push : (texts : List (List ℕ)) (text : List ℕ) → ended_lines (texts ++ text ∷ []) ≡ ended_lines texts ++ text ++ codes "\n"
ended_push [] text = append-nil (text ++ codes "\n")
ended_push (first ∷ texts) text =
    ap (λ bytes. (first ++ codes "\n") ++ bytes) (ended_push texts text)
    ∙ sym (append_assoc (first ++ codes "\n") (ended_lines texts ++ text) (codes "\n"))
    ∙ ap (λ bytes. bytes ++ codes "\n") (sym (append_assoc (first ++ codes "\n") (ended_lines texts) text))

-- the last line has no end
join_push : (texts : List (List ℕ)) (text : List ℕ) → join_with_byte 0x0A (texts ++ text ∷ []) ≡ ended_lines texts ++ text
join_push [] text = refl
join_push (first ∷ []) text = sym (ap (λ bytes. bytes ++ text) (append-nil (first ++ codes "\n")) ∙ append_assoc first (codes "\n") text)
join_push (first ∷ second ∷ texts) text =
    ap (λ bytes. first ++ 0x0A ∷ bytes) (join_push (second ∷ texts) text)
    ∙ sym (append_assoc first (codes "\n") (ended_lines (second ∷ texts) ++ text))
    ∙ sym (append_assoc (first ++ codes "\n") (ended_lines (second ∷ texts)) text)

-- a reload whose text has had these lines: all before the next one
abbrev pub text_before : ℕ → List (List ℕ) → List ℕ
text_before missing texts = if missing == 0 then join_with_byte 0x0A texts else ended_lines texts

abbrev pub pending_of : ℕ → ℕ → List (List ℕ) → Pending
pending_of moment missing texts = record { moment = moment; missing = missing; text = text_before missing texts }

-- one that still has a line to come
abbrev pub pending_with : ℕ → ℕ → List (List ℕ) → Pending
pending_with moment missing texts = record { moment = moment; missing = missing; text = ended_lines texts }

line_more : (moment missing : ℕ) (texts : List (List ℕ)) (text : List ℕ) → with_text (pending_with moment missing texts) text ≡ pending_of moment (missing - 1) (texts ++ text ∷ [])
line_more moment missing texts text = ap (λ bytes. record { moment = moment; missing = missing - 1; text = bytes }) (by (nat_lt 1 missing) refl)
  where
    by : (b : Bool) → nat_lt 1 missing ≡ b
        → (if b then ended_lines texts ++ text ++ codes "\n" else ended_lines texts ++ text) ≡ text_before (missing - 1) (texts ++ text ∷ [])
    by true some = let more : (missing - 1 == 0) ≡ false = grind (arith, nat_tests, some) in rw more (sym (ended_push texts text))
    by false none = let last : (missing - 1 == 0) ≡ true = grind (arith, nat_tests, none) in rw last (sym (join_push texts text))

-- ---- by the state alone

-- how far a check is after a history, and perhaps lines of an event
abbrev pub standing : Plain → List Entry → ℕ → LinePlace → Standing
standing p h before LinePlace.between = record { plain = after p h; lines = before; records = length h; due = dues.Event }
standing p h before (LinePlace.within moment missing texts) =
    record { plain = after p h; lines = before; records = length h; due = dues.Text (pending_with moment missing texts) }
standing p h before (LinePlace.awaiting timed) = record {
  plain = plain_after (after p h) timed.0 timed.1 (answer p h timed.0 timed.1);
  lines = before;
  records = length h;
  due = dues.Reply (event_peer timed.1) (answer p h timed.0 timed.1);
}

-- a line of a text leaves the check before the next one, or before the reply
after_text : (p : Plain) (h : List Entry) (before : ℕ) (s : Standing) (moment missing : ℕ) (texts : List (List ℕ)) → s.plain ≡ after p h → s.lines ≡ before → s.records ≡ length h
    → standing p h (before + 1) (next_of_text moment missing texts) ≡ after_line s (pending_of moment missing texts)
after_text p h before s moment missing texts plain lines records = by (missing == 0) refl
  where
    by : (b : Bool) → (missing == 0) ≡ b → standing p h (before + 1) (next_of_text moment missing texts) ≡ after_line s (pending_of moment missing texts)
    by true none =
        rw (none, plain, lines, records)
        (ap (λ bytes. standing p h (before + 1) (LinePlace.awaiting (moment, Reload bytes))) (sym (append-nil (join_with_byte 0x0A texts))))
    by false some = rw (some, plain, lines, records) refl

-- a right reply leaves the check after one entry more
pub same_standing : (p : Plain) (h : List Entry) (before : ℕ) (timed : ℕ × OwnedEvent) (reply : Reply) → IsWell p → IsLegal p h → answer p h timed.0 timed.1 ≡ Ok reply
    → standing p (entry timed.0 timed.1 reply ∷ h) (before + 1) LinePlace.between ≡ after_reply (standing p h before (LinePlace.awaiting timed)) reply
same_standing p h before timed reply well legal is =
    let plain : after p (entry timed.0 timed.1 reply ∷ h) ≡ plain_after (after p h) timed.0 timed.1 (answer p h timed.0 timed.1) =
    sym (ap (plain_after (after p h) timed.0 timed.1) is ∙ whole_in_parts p well (entry timed.0 timed.1 reply ∷ []) h (legal, is)) in
    let longer : length (entry timed.0 timed.1 reply ∷ h) ≡ length h + 1 = omega arith in
    ap (λ q. record { plain = q; lines = before + 1; records = length (entry timed.0 timed.1 reply ∷ h); due = dues.Event }) plain
    ∙ ap (λ n. record { plain = plain_after (after p h) timed.0 timed.1 (answer p h timed.0 timed.1); lines = before + 1; records = n; due = dues.Event }) longer

pub head_standing : (p : Plain) (h : List Entry) (before : ℕ) (head : EventHead) → standing p h (before + 1) (next_of head) ≡ after_head (standing p h before LinePlace.between) head
head_standing p h before (EventHead.whole timed) = refl
head_standing p h before (EventHead.reload moment count) = begins (count == 0) refl
  where
    begins : (b : Bool) → (count == 0) ≡ b → standing p h (before + 1) (next_of_text moment count []) ≡ after_line (standing p h before LinePlace.between) (pending_reload moment count)
    begins true none = rw none refl
    begins false some = rw some refl

pub text_standing : (p : Plain) (h : List Entry) (before moment missing : ℕ) (texts : List (List ℕ)) (text : List ℕ)
    → standing p h (before + 1) (next_of_text moment (missing - 1) (texts ++ text ∷ [])) ≡ after_line (standing p h before (LinePlace.within moment missing texts)) (with_text (pending_with moment missing texts) text)
text_standing p h before moment missing texts text =
    after_text p h before (standing p h before (LinePlace.within moment missing texts)) moment (missing - 1) (texts ++ text ∷ []) refl refl refl
    ∙ ap (after_line (standing p h before (LinePlace.within moment missing texts))) (sym (line_more moment missing texts text))

same_head : (p : Plain) (h : List Entry) (before : ℕ) (lines : List (List ℕ)) (read : Result EventHead CheckFault)
    → ((next : LinePlace) → counts_from p (history_on p h (before + 1) next lines) ≡ standing_counts (verdict_in (standing p h (before + 1) next) lines))
    → counts_from p (read >>= λ head. history_on p h (before + 1) (next_of head) lines)
    ≡ standing_counts ((read >>= λ head. Ok (after_head (standing p h before LinePlace.between) head)) >>= λ t. verdict_in t lines)
same_head p h before lines (Ok head) goes_on = goes_on (next_of head) ∙ ap (λ s. standing_counts (verdict_in s lines)) (head_standing p h before head)
same_head p h before lines (Err fault) goes_on = refl

same_text : (p : Plain) (h : List Entry) (before moment missing : ℕ) (texts lines : List (List ℕ)) (read : Result (List ℕ) CheckFault)
    → ((next : LinePlace) → counts_from p (history_on p h (before + 1) next lines) ≡ standing_counts (verdict_in (standing p h (before + 1) next) lines))
    → counts_from p (read >>= λ text. history_on p h (before + 1) (next_of_text moment (missing - 1) (texts ++ text ∷ [])) lines)
    ≡ standing_counts ((read >>= λ text. Ok (after_line (standing p h before (LinePlace.within moment missing texts)) (with_text (pending_with moment missing texts) text))) >>= λ t. verdict_in t lines)
same_text p h before moment missing texts lines (Ok text) goes_on =
    goes_on (next_of_text moment (missing - 1) (texts ++ text ∷ [])) ∙ ap (λ s. standing_counts (verdict_in s lines)) (text_standing p h before moment missing texts text)
same_text p h before moment missing texts lines (Err fault) goes_on = refl

same_reply : (p : Plain) (h : List Entry) (before : ℕ) (timed : ℕ × OwnedEvent) (lines : List (List ℕ)) (read : Result Reply CheckFault) → IsWell p → IsLegal p h
    → ((reply : Reply) → read ≡ Ok reply → answer p h timed.0 timed.1 ≡ Ok reply)
    → ((reply : Reply) → IsLegal p (entry timed.0 timed.1 reply ∷ h)
    → counts_from p (history_on p (entry timed.0 timed.1 reply ∷ h) (before + 1) LinePlace.between lines) ≡ standing_counts (verdict_in (standing p (entry timed.0 timed.1 reply ∷ h) (before + 1) LinePlace.between) lines))
    → counts_from p (read >>= λ reply. history_on p (entry timed.0 timed.1 reply ∷ h) (before + 1) LinePlace.between lines)
    ≡ standing_counts ((read >>= λ reply. Ok (after_reply (standing p h before (LinePlace.awaiting timed)) reply)) >>= λ t. verdict_in t lines)
same_reply p h before timed lines (Ok reply) well legal gives next =
    let is : answer p h timed.0 timed.1 ≡ Ok reply = gives reply refl in
    next reply (legal, is) ∙ ap (λ s. standing_counts (verdict_in s lines)) (same_standing p h before timed reply well legal is)
same_reply p h before timed lines (Err fault) well legal gives next = refl

pub same_verdict : (p : Plain) (h : List Entry) (before : ℕ) (next : LinePlace) (lines : List (List ℕ)) → IsWell p → IsLegal p h
    → counts_from p (history_on p h before next lines) ≡ standing_counts (verdict_in (standing p h before next) lines)
same_verdict p h before LinePlace.between [] well legal = refl
same_verdict p h before (LinePlace.within moment missing texts) [] well legal = refl
same_verdict p h before (LinePlace.awaiting timed) [] well legal = refl
same_verdict p h before LinePlace.between (line ∷ lines) well legal =
    same_head p h before lines (head_at (before + 1) (length h + 1) line) (λ next. same_verdict p h (before + 1) next lines well legal)
same_verdict p h before (LinePlace.within moment missing texts) (line ∷ lines) well legal =
    same_text p h before moment missing texts lines (text_at (before + 1) line) (λ next. same_verdict p h (before + 1) next lines well legal)
same_verdict p h before (LinePlace.awaiting timed) (line ∷ lines) well legal =
    same_reply p h before timed lines (reply_at (before + 1) (answer p h timed.0 timed.1) line) well legal
    (λ reply is. (reply_gives (before + 1) (answer p h timed.0 timed.1) line reply is).0)
    (λ reply next. same_verdict p (entry timed.0 timed.1 reply ∷ h) (before + 1) LinePlace.between lines well next)

-- from the opening of a plan on
pub verdict_start : (plan : Plan) (text : List ℕ) → IsWell (opening plan 0) → verdict plan text ≡ standing_counts (verdict_in (start (opening plan 0)) (parts is_line_feed text))
verdict_start plan text well =
    same_verdict (opening plan 0) [] 0 LinePlace.between (parts is_line_feed text) well tt
    ∙ ap (λ p. standing_counts (verdict_in (start p) (parts is_line_feed text))) (after-nil (opening plan 0) well)
