-- A record that was cut has no fault before the line that it was cut in.
use Rattle.std.proofs.Common.{◌≡◌, ◌<◌, ◌≤◌, ◌+◌, ◌-◌, ◌++◌, ◌⊎◌, inl, inr, ℕ, zero, suc, Bool, true, false, List, [], ◌∷◌, length, take, Result, Ok, Err, Option, Some, None, refl, ap, sym, subst, ◌∙◌, arith, length-append}
use Rattle.std.specs.Prelude.{nat_eq, if◌then◌else◌}
use Rattle.std.specs.List.{onto_first, starts_with}
use Rattle.std.specs.Str.{bytes_eq}
use Rattle.list_core.specs.Each.{◌>>=◌}
use Rattle.text_core.specs.Parts.{parts, is_line_feed}
use Rattle.plan_types.specs.declared.plan.Plan.{Plan}
use Rattle.config_core.specs.Meaning.{meaning}
use Rattle.conn_model.specs.declared.plain.Plain.{Plain}
use Rattle.conn_model.specs.declared.reply.Reply.{Reply}
use Rattle.conn_model.specs.declared.reply.StepFault.{StepFault}
use Rattle.conn_model.specs.Words.{or_fault}
use Rattle.conn_model.specs.HandedIn.{AreHandedIn}
use Rattle.conn_model.specs.History.{answer, entry, opening, Entry, IsLegal}
use Rattle.event_text.specs.Script.{bar_text, words_of}
use Rattle.audit_core.specs.Record.{history_text, numbered_head, recorded_reply, reply_mark}
use Rattle.audit_core.specs.Verdict.{counts_from, counts_of, fault_at, head_at, history_on, is_too_long, next_of, next_of_text, reply_at, right_reply, text_at, verdict, IsWithinLimits, LinePlace}
use Rattle.audit_core.specs.declared.fault.Checked.{Checked}
use Rattle.audit_core.specs.declared.fault.CheckFault.{CheckFault}
use Rattle.audit_core.specs.declared.fault.CheckKind.{CheckKind}
use Rattle.audit_core.specs.declared.fault.CheckKind.TheVariants.{Format, WrongReply, NoMemory, Read, TooLong, Config}
use Rattle.audit_core.proofs.PassLemmas.{passes, same_plan}
use Rattle.audit_core.proofs.WrittenLemmas.{written_record}
use Rattle.audit_core.specs.Check.{IsFaultOf, IsOutside}

-- ---- the lines of a front of a text

-- The lines of a text and of its front begin alike; then the front has one more at most.
record FrontLines (text front : List ℕ) : Type 0 where
  pub both : List (List ℕ)
  pub rest : List (List ℕ)
  pub last : List (List ℕ)
  pub whole : parts is_line_feed text ≡ both ++ rest
  pub cut : parts is_line_feed front ≡ both ++ last
  pub few : length last ≤ 1

onto_few : (b : ℕ) (lines : List (List ℕ)) → length lines ≤ 1 → length (onto_first b lines) ≤ 1
onto_few b [] few = omega arith
onto_few b (line ∷ []) few = omega arith
onto_few b (line ∷ other ∷ lines) few = absurd (omega (arith, few))

byte_more : (b : ℕ) (text front : List ℕ) → FrontLines text front → (ends : Bool) → is_line_feed b ≡ ends → FrontLines (b ∷ text) (b ∷ front)
byte_more b text front lines true is = record {
  both = [] ∷ lines.both;
  rest = lines.rest;
  last = lines.last;
  whole = rw is (ap (λ ls. [] ∷ ls) lines.whole);
  cut = rw is (ap (λ ls. [] ∷ ls) lines.cut);
  few = lines.few;
}
byte_more b text front lines false is = by lines.both lines.whole lines.cut
  where
    by : (both : List (List ℕ)) → parts is_line_feed text ≡ both ++ lines.rest → parts is_line_feed front ≡ both ++ lines.last → FrontLines (b ∷ text) (b ∷ front)
    by [] whole cut = record {
      both = [];
      rest = onto_first b lines.rest;
      last = onto_first b lines.last;
      whole = rw is (ap (onto_first b) whole);
      cut = rw is (ap (onto_first b) cut);
      few = onto_few b lines.last lines.few;
    }
    by (line ∷ both) whole cut = record {
      both = (b ∷ line) ∷ both;
      rest = lines.rest;
      last = lines.last;
      whole = rw is (ap (onto_first b) whole);
      cut = rw is (ap (onto_first b) cut);
      few = lines.few;
    }

front_lines : (text : List ℕ) (count : ℕ) → FrontLines text (take count text)
front_lines text zero = record { both = []; rest = parts is_line_feed text; last = []; whole = refl; cut = refl; few = omega arith }
front_lines [] (suc count) = record { both = []; rest = []; last = []; whole = refl; cut = refl; few = omega arith }
front_lines (b ∷ text) (suc count) = byte_more b text (take count text) (front_lines text count) (is_line_feed b) refl

-- ---- which line a fault has

fault_of_none : {X : Type 0} (at : ℕ) (kind : CheckKind) (o : Option X) (fault : CheckFault) → or_fault (fault_at at kind) o ≡ Err fault → fault.line ≡ at
fault_of_none at kind None fault is = let same : fault_at at kind ≡ fault = cc in ap (λ f. f.line) (sym same)
fault_of_none at kind (Some x) fault is = absurd cc

head_fault : (at number : ℕ) (line : List ℕ) (fault : CheckFault) → head_at at number line ≡ Err fault → fault.line ≡ at
head_fault at number line fault is = by (is_too_long at line) is
  where
    by : (long : Bool) → (if long then Err (fault_at at TooLong) else or_fault (fault_at at Format) (numbered_head number (words_of line))) ≡ Err fault → fault.line ≡ at
    by true is = let same : fault_at at TooLong ≡ fault = cc in ap (λ f. f.line) (sym same)
    by false is = fault_of_none at Format (numbered_head number (words_of line)) fault is

text_fault : (at : ℕ) (line : List ℕ) (fault : CheckFault) → text_at at line ≡ Err fault → fault.line ≡ at
text_fault at line fault is = by (is_too_long at line) is
  where
    by : (long : Bool) → (if long then Err (fault_at at TooLong) else or_fault (fault_at at Format) (bar_text line)) ≡ Err fault → fault.line ≡ at
    by true is = let same : fault_at at TooLong ≡ fault = cc in ap (λ f. f.line) (sym same)
    by false is = fault_of_none at Format (bar_text line) fault is

right_fault : (at : ℕ) (answered : Result Reply StepFault) (line : List ℕ) (fault : CheckFault) → right_reply at answered line ≡ Err fault → fault.line ≡ at
right_fault at (Err wrong) line fault is = let same : fault_at at WrongReply ≡ fault = cc in ap (λ f. f.line) (sym same)
right_fault at (Ok reply) line fault is = by (bytes_eq line (recorded_reply reply)) is
  where
    by : (right : Bool) → (if right then Ok reply else Err (fault_at at WrongReply)) ≡ Err fault → fault.line ≡ at
    by true is = absurd cc
    by false is = let same : fault_at at WrongReply ≡ fault = cc in ap (λ f. f.line) (sym same)

reply_fault : (at : ℕ) (answered : Result Reply StepFault) (line : List ℕ) (fault : CheckFault) → reply_at at answered line ≡ Err fault → fault.line ≡ at
reply_fault at answered line fault is = by (is_too_long at line) (starts_with nat_eq line reply_mark) is
  where
    by : (long marked : Bool) → (if long then Err (fault_at at TooLong) else if marked then right_reply at answered line else Err (fault_at at Format)) ≡ Err fault → fault.line ≡ at
    by true marked is = let same : fault_at at TooLong ≡ fault = cc in ap (λ f. f.line) (sym same)
    by false true is = right_fault at answered line fault is
    by false false is = let same : fault_at at Format ≡ fault = cc in ap (λ f. f.line) (sym same)

-- what is read of a line, and then of the others
fault_after_line : {X : Type 0} (n : ℕ) (read : Result X CheckFault) (go : X → Result (List Entry) CheckFault) (fault : CheckFault)
    → ((f : CheckFault) → read ≡ Err f → f.line ≡ n + 1) → ((x : X) → go x ≡ Err fault → n + 1 < fault.line) → (read >>= go) ≡ Err fault → n < fault.line
fault_after_line n (Err f) go fault here later is =
    let same : f ≡ fault = cc in let line : fault.line ≡ n + 1 = subst (λ g. g.line ≡ n + 1) same (here f refl) in omega (arith, line)
fault_after_line n (Ok x) go fault here later is = let more : n + 1 < fault.line = later x is in omega (arith, more)

-- so it is on a line that was read, or on one that is missing
later_fault : (p : Plain) (h : List Entry) (n : ℕ) (place : LinePlace) (lines : List (List ℕ)) (fault : CheckFault) → history_on p h n place lines ≡ Err fault → n < fault.line
later_fault p h n LinePlace.between [] fault is = absurd cc
later_fault p h n (LinePlace.within moment missing texts) [] fault is = let same : fault_at (n + 1) Format ≡ fault = cc in let line : fault.line ≡ n + 1 = ap (λ f. f.line) (sym same) in omega (arith, line)
later_fault p h n (LinePlace.awaiting timed) [] fault is = let same : fault_at (n + 1) Format ≡ fault = cc in let line : fault.line ≡ n + 1 = ap (λ f. f.line) (sym same) in omega (arith, line)
later_fault p h n LinePlace.between (line ∷ lines) fault is =
    fault_after_line n (head_at (n + 1) (length h + 1) line) (λ head. history_on p h (n + 1) (next_of head) lines) fault
    (λ f wrong. head_fault (n + 1) (length h + 1) line f wrong) (λ head. later_fault p h (n + 1) (next_of head) lines fault) is
later_fault p h n (LinePlace.within moment missing texts) (line ∷ lines) fault is =
    fault_after_line n (text_at (n + 1) line) (λ text. history_on p h (n + 1) (next_of_text moment (missing - 1) (texts ++ text ∷ [])) lines) fault
    (λ f wrong. text_fault (n + 1) line f wrong) (λ text. later_fault p h (n + 1) (next_of_text moment (missing - 1) (texts ++ text ∷ [])) lines fault) is
later_fault p h n (LinePlace.awaiting timed) (line ∷ lines) fault is =
    fault_after_line n (reply_at (n + 1) (answer p h timed.0 timed.1) line) (λ reply. history_on p (entry timed.0 timed.1 reply ∷ h) (n + 1) LinePlace.between lines) fault
    (λ f wrong. reply_fault (n + 1) (answer p h timed.0 timed.1) line f wrong) (λ reply. later_fault p (entry timed.0 timed.1 reply ∷ h) (n + 1) LinePlace.between lines fault) is

-- ---- where the first lines are those of a record that is right

same_step : {X : Type 0} (n k : ℕ) (read : Result X CheckFault) (go stop : X → Result (List Entry) CheckFault) (g : List Entry) (fault : CheckFault)
    → ((x : X) → go x ≡ Ok g → stop x ≡ Err fault → n + 1 + k < fault.line) → (read >>= go) ≡ Ok g → (read >>= stop) ≡ Err fault → n + suc k < fault.line
same_step n k (Err f) go stop g fault later right wrong = absurd cc
same_step n k (Ok x) go stop g fault later right wrong = let more : n + 1 + k < fault.line = later x right wrong in omega (arith, more)

after_right_lines : (p : Plain) (h : List Entry) (n : ℕ) (place : LinePlace) (both rest last : List (List ℕ)) (g : List Entry) (fault : CheckFault)
    → history_on p h n place (both ++ rest) ≡ Ok g → history_on p h n place (both ++ last) ≡ Err fault → n + length both < fault.line
after_right_lines p h n place [] rest last g fault right wrong = let more = later_fault p h n place last fault wrong in omega (arith, more)
after_right_lines p h n LinePlace.between (line ∷ both) rest last g fault right wrong =
    same_step n (length both) (head_at (n + 1) (length h + 1) line) (λ head. history_on p h (n + 1) (next_of head) (both ++ rest)) (λ head. history_on p h (n + 1) (next_of head) (both ++ last)) g fault
    (λ head. after_right_lines p h (n + 1) (next_of head) both rest last g fault) right wrong
after_right_lines p h n (LinePlace.within moment missing texts) (line ∷ both) rest last g fault right wrong =
    same_step n (length both) (text_at (n + 1) line)
    (λ text. history_on p h (n + 1) (next_of_text moment (missing - 1) (texts ++ text ∷ [])) (both ++ rest))
    (λ text. history_on p h (n + 1) (next_of_text moment (missing - 1) (texts ++ text ∷ [])) (both ++ last)) g fault
    (λ text. after_right_lines p h (n + 1) (next_of_text moment (missing - 1) (texts ++ text ∷ [])) both rest last g fault) right wrong
after_right_lines p h n (LinePlace.awaiting timed) (line ∷ both) rest last g fault right wrong =
    same_step n (length both) (reply_at (n + 1) (answer p h timed.0 timed.1) line)
    (λ reply. history_on p (entry timed.0 timed.1 reply ∷ h) (n + 1) LinePlace.between (both ++ rest))
    (λ reply. history_on p (entry timed.0 timed.1 reply ∷ h) (n + 1) LinePlace.between (both ++ last)) g fault
    (λ reply. after_right_lines p (entry timed.0 timed.1 reply ∷ h) (n + 1) LinePlace.between both rest last g fault) right wrong

-- ---- verdicts

history_of_verdict : (p : Plain) (read : Result (List Entry) CheckFault) (fault : CheckFault) → counts_from p read ≡ Err fault → read ≡ Err fault
history_of_verdict p (Ok h) fault is = absurd cc
history_of_verdict p (Err f) fault is = let same : f ≡ fault = cc in ap (λ e. Err e) same

right_history : (p : Plain) (read : Result (List Entry) CheckFault) (counts : Checked) → counts_from p read ≡ Ok counts → (h : List Entry) × (read ≡ Ok h)
right_history p (Ok h) counts is = (h, refl)
right_history p (Err f) counts is = absurd cc

-- what is written of a legal history is found right
pub written_right : (plan : Plan) (h : List Entry) → IsLegal (opening plan 0) h → AreHandedIn h → IsWithinLimits (parts is_line_feed (history_text h))
    → verdict plan (history_text h) ≡ Ok (counts_of (opening plan 0) h)
written_right plan h legal given within = passes plan (history_text h) h legal (written_record h given) within

-- and a front of it up to its last line
pub cut_late : (plan : Plan) (h : List Entry) (count : ℕ) (fault : CheckFault) → IsLegal (opening plan 0) h → AreHandedIn h → IsWithinLimits (parts is_line_feed (history_text h))
    → verdict plan (take count (history_text h)) ≡ Err fault → length (parts is_line_feed (take count (history_text h))) ≤ fault.line
cut_late plan h count fault legal given within wrong =
    let p : Plain = opening plan 0 in
    let text : List ℕ = history_text h in
    let lines : FrontLines text (take count text) = front_lines text count in
    let all = right_history p (history_on p [] 0 LinePlace.between (parts is_line_feed text)) (counts_of p h) (written_right plan h legal given within) in
    let right : history_on p [] 0 LinePlace.between (lines.both ++ lines.rest) ≡ Ok all.0 = ap (history_on p [] 0 LinePlace.between) (sym lines.whole) ∙ all.1 in
    let found : history_on p [] 0 LinePlace.between (lines.both ++ lines.last) ≡ Err fault =
    ap (history_on p [] 0 LinePlace.between) (sym lines.cut) ∙ history_of_verdict p (history_on p [] 0 LinePlace.between (parts is_line_feed (take count text))) fault wrong in
    let late = after_right_lines p [] 0 LinePlace.between lines.both lines.rest lines.last all.0 fault right found in
    let counted : length (parts is_line_feed (take count text)) ≡ length lines.both + length lines.last = ap length lines.cut ∙ length-append lines.both lines.last in
    omega (arith, late, counted, lines.few)

line_of : (config : List ℕ) (a b : Plan) (h : List Entry) (count line : ℕ) (kind : CheckKind) → meaning config ≡ Ok a → meaning config ≡ Ok b → IsLegal (opening a 0) h → AreHandedIn h
    → IsWithinLimits (parts is_line_feed (history_text h)) → verdict b (take count (history_text h)) ≡ Err (fault_at line kind)
    → length (parts is_line_feed (take count (history_text h))) ≤ line
line_of config a b h count line kind first second legal given within wrong =
    cut_late a h count (fault_at line kind) legal given within (subst (λ plan. verdict plan (take count (history_text h)) ≡ Err (fault_at line kind)) (same_plan config b a second first) wrong)

-- a fault that the check of such a front has is late, or one of the device or memory
pub cut_fault : (config : List ℕ) (plan : Plan) (h : List Entry) (count line : ℕ) (kind : CheckKind) → meaning config ≡ Ok plan → IsLegal (opening plan 0) h → AreHandedIn h
    → IsWithinLimits (parts is_line_feed (history_text h)) → IsFaultOf config (take count (history_text h)) kind line
    → IsOutside kind ⊎ (length (parts is_line_feed (take count (history_text h))) ≤ line)
cut_fault config plan h count line Format means legal given within fault = inr (line_of config plan fault.0 h count line Format means fault.1 legal given within fault.2)
cut_fault config plan h count line WrongReply means legal given within fault = inr (line_of config plan fault.0 h count line WrongReply means fault.1 legal given within fault.2)
cut_fault config plan h count line TooLong means legal given within fault = inr (line_of config plan fault.0 h count line TooLong means fault.1 legal given within fault.2)
cut_fault config plan h count line NoMemory means legal given within fault = inl tt
cut_fault config plan h count line Read means legal given within fault = inl tt
cut_fault config plan h count line (Config refused) means legal given within fault = let both = sym means ∙ fault.1 in absurd (cc)
