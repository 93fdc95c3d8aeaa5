-- The record of a legal history is found right.
use Rattle.std.proofs.Common.{◌≡◌, ℕ, ◌+◌, ◌-◌, ◌≤◌, true, false, List, [], ◌∷◌, ◌++◌, length, Some, Result, Ok, Err, refl, ap, sym, subst, ◌∙◌, append_assoc, append-nil, arith}
use Rattle.std.specs.Prelude.{nat_lt, ◌==◌}
use Rattle.std.specs.List.{join_with_byte, AllByRecursion}
use Rattle.std.specs.Str.{bytes_eq}
use Rattle.std.proofs.lemmas.Bool.Decides.{nat_tests}
use Rattle.std.proofs.lemmas.List.{length-append}
use Rattle.std.proofs.lemmas.Slice.Eq.{bytes_eq-Decides}
use Rattle.list_core.specs.Each.{◌>>=◌}
use Rattle.text_core.specs.Parts.{parts, is_line_feed}
use Rattle.line_reader.specs.declared.lines.TheConstants.{MOST_LINE_BYTES}
use Rattle.plan_types.specs.declared.plan.Plan.{Plan}
use Rattle.config_core.specs.Meaning.{meaning}
use Rattle.conn_model.specs.declared.event.OwnedEvent.{OwnedEvent}
use Rattle.conn_model.specs.declared.event.OwnedEvent.TheVariants.{Reload}
use Rattle.conn_model.specs.declared.plain.Plain.{Plain}
use Rattle.conn_model.specs.declared.reply.Reply.{Reply}
use Rattle.conn_model.specs.declared.reply.StepFault.{StepFault}
use Rattle.conn_model.specs.History.{Entry, IsLegal, answer, entry, opening}
use Rattle.event_text.specs.Script.{bar_text, bar_texts, words_of, EventHead}
use Rattle.audit_core.specs.Record.{numbered_event, numbered_head, recorded_reply, IsRecord}
use Rattle.audit_core.specs.Verdict.{counts_from, counts_of, fault_at, head_at, history_on, is_too_long, next_of, next_of_text, reply_at, text_at, verdict, IsWithinLimits, LinePlace}
use Rattle.audit_core.specs.Check.{IsFaultOf, IsOutside}
use Rattle.audit_core.specs.declared.fault.TheConstants.{MOST_RECORD_LINES}
use Rattle.audit_core.specs.declared.fault.CheckFault.{CheckFault}
use Rattle.audit_core.specs.declared.fault.CheckKind.{CheckKind}
use Rattle.audit_core.specs.declared.fault.CheckKind.TheVariants.{Format, WrongReply, NoMemory, Read, TooLong, Config}
use Rattle.audit_core.proofs.LinesLemmas.{is_written, texts_parts, IsWritten}

pub short_line : (at : ℕ) (line : List ℕ) → length line ≤ MOST_LINE_BYTES → at ≤ MOST_RECORD_LINES → is_too_long at line ≡ false
short_line at line bytes few =
    let a : nat_lt MOST_LINE_BYTES (length line) ≡ false = grind (arith, nat_tests, bytes) in
    let b : nat_lt MOST_RECORD_LINES at ≡ false = grind (arith, nat_tests, few) in
    rw (a, b) refl

head_taken : (at number : ℕ) (line : List ℕ) (head : EventHead) → is_too_long at line ≡ false → numbered_head number (words_of line) ≡ Some head → head_at at number line ≡ Ok head
head_taken at number line head short read = rw (short, read) refl

pub text_taken : (at : ℕ) (line text : List ℕ) → is_too_long at line ≡ false → bar_text line ≡ Some text → text_at at line ≡ Ok text
text_taken at line text short read = rw (short, read) refl

reply_taken : (at : ℕ) (reply : Reply) (answered : Result Reply StepFault) → answered ≡ Ok reply → is_too_long at (recorded_reply reply) ≡ false
    → reply_at at answered (recorded_reply reply) ≡ Ok reply
reply_taken at reply answered is short =
    let same : bytes_eq (recorded_reply reply) (recorded_reply reply) ≡ true = (bytes_eq-Decides (recorded_reply reply) (recorded_reply reply)).1 refl in
    ap (λ a. reply_at at a (recorded_reply reply)) is ∙ rw (short, same) refl

all_front : (P : List ℕ → Type 0) (xs ys : List (List ℕ)) → AllByRecursion P (xs ++ ys) → AllByRecursion P xs × AllByRecursion P ys
all_front P [] ys all = (tt, all)
all_front P (x ∷ xs) ys all = let rest = all_front P xs ys all.1 in ((all.0, rest.0), rest.1)

abbrev AreShort : List (List ℕ) → Type 0
AreShort lines = AllByRecursion (λ line. length line ≤ MOST_LINE_BYTES) lines

-- the lines of a text are taken
text_lines_taken : (p : Plain) (h : List Entry) (n moment : ℕ) (bars texts done rest : List (List ℕ)) → bar_texts bars ≡ Some texts → AreShort bars → n + length bars ≤ MOST_RECORD_LINES
    → history_on p h n (next_of_text moment (length bars) done) (bars ++ rest) ≡ history_on p h (n + length bars) (LinePlace.awaiting (moment, Reload (join_with_byte 0x0A (done ++ texts)))) rest
text_lines_taken p h n moment [] texts done rest are short few =
    let none : [] ≡ texts = cc in
    let empty : List (List ℕ) = [] in
    let counted : n ≡ n + length empty = omega arith in
    ap (λ ts. history_on p h n (LinePlace.awaiting (moment, Reload (join_with_byte 0x0A ts))) rest) (sym (append-nil done) ∙ ap (λ ts. done ++ ts) none)
    ∙ ap (λ m. history_on p h m (LinePlace.awaiting (moment, Reload (join_with_byte 0x0A (done ++ texts)))) rest) counted
text_lines_taken p h n moment (bar ∷ bars) texts done rest are short few =
    let them = texts_parts bar bars texts are in
    let taken : text_at (n + 1) bar ≡ Ok them.0 = text_taken (n + 1) bar them.0 (short_line (n + 1) bar short.0 (omega (arith, few))) them.2 in
    let all : (done ++ them.0 ∷ []) ++ them.1 ≡ done ++ texts = append_assoc done (them.0 ∷ []) them.1 ∙ ap (λ ts. done ++ ts) (sym them.4) in
    let counted : n + 1 + length bars ≡ n + length (bar ∷ bars) = omega arith in
    let some : (length (bar ∷ bars) == 0) ≡ false = grind (arith, nat_tests) in
    let less : length (bar ∷ bars) - 1 ≡ length bars = omega arith in
    let begins : next_of_text moment (length (bar ∷ bars)) done ≡ LinePlace.within moment (length (bar ∷ bars)) done = rw some refl in
    ap (λ next. history_on p h n next (bar ∷ (bars ++ rest))) begins
    ∙ ap (λ r. r >>= λ text. history_on p h (n + 1) (next_of_text moment (length (bar ∷ bars) - 1) (done ++ text ∷ [])) (bars ++ rest)) taken
    ∙ ap (λ m. history_on p h (n + 1) (next_of_text moment m (done ++ them.0 ∷ [])) (bars ++ rest)) less
    ∙ text_lines_taken p h (n + 1) moment bars them.1 (done ++ them.0 ∷ []) rest them.3 short.1 (omega (arith, few))
    ∙ ap (λ ts. history_on p h (n + 1 + length bars) (LinePlace.awaiting (moment, Reload (join_with_byte 0x0A ts))) rest) all
    ∙ ap (λ m. history_on p h m (LinePlace.awaiting (moment, Reload (join_with_byte 0x0A (done ++ texts)))) rest) counted

head_line_taken : (p : Plain) (h : List Entry) (n : ℕ) (line : List ℕ) (head : EventHead) (rest : List (List ℕ)) → numbered_head (length h + 1) (words_of line) ≡ Some head
    → length line ≤ MOST_LINE_BYTES → n + 1 ≤ MOST_RECORD_LINES → history_on p h n LinePlace.between (line ∷ rest) ≡ history_on p h (n + 1) (next_of head) rest
head_line_taken p h n line head rest read short few =
    ap (λ r. r >>= λ found. history_on p h (n + 1) (next_of found) rest) (head_taken (n + 1) (length h + 1) line head (short_line (n + 1) line short few) read)

-- the lines of an event are taken
event_taken : (p : Plain) (h : List Entry) (n : ℕ) (timed : ℕ × OwnedEvent) (event rest : List (List ℕ)) → IsWritten (length h + 1) timed event → AreShort event → n + length event ≤ MOST_RECORD_LINES
    → history_on p h n LinePlace.between (event ++ rest) ≡ history_on p h (n + length event) (LinePlace.awaiting timed) rest
event_taken p h n timed event rest (IsWritten.alone line head is) short few =
    let shorts : AreShort (line ∷ []) = subst AreShort is short in
    let long = ap length is in
    let counted : n + length event ≡ n + 1 = omega (arith, long) in
    ap (λ ls. history_on p h n LinePlace.between (ls ++ rest)) is
    ∙ head_line_taken p h n line (EventHead.whole timed) rest head shorts.0 (omega (arith, counted, few))
    ∙ ap (λ m. history_on p h m (LinePlace.awaiting timed) rest) (sym counted)
event_taken p h n timed event rest (IsWritten.with_text line bars texts moment head are same is) short few =
    let shorts : AreShort (line ∷ bars) = subst AreShort is short in
    let long = ap length is in
    let counted : n + length event ≡ n + 1 + length bars = omega (arith, long) in
    ap (λ ls. history_on p h n LinePlace.between (ls ++ rest)) is
    ∙ head_line_taken p h n line (EventHead.reload moment (length bars)) (bars ++ rest) head shorts.0 (omega (arith, counted, few))
    ∙ text_lines_taken p h (n + 1) moment bars texts [] rest are shorts.1 (omega (arith, counted, few))
    ∙ ap (λ m. history_on p h m (LinePlace.awaiting (moment, Reload (join_with_byte 0x0A texts))) rest) (sym counted)
    ∙ ap (λ t. history_on p h (n + length event) (LinePlace.awaiting t) rest) (sym same)

-- the lines of an entry are taken
entry_taken : (p : Plain) (h : List Entry) (e : Entry) (n : ℕ) (event rest : List (List ℕ)) → answer p h e.moment e.event ≡ Ok e.reply
    → numbered_event (length h + 1) event ≡ Some (e.moment, e.event) → AreShort event → length (recorded_reply e.reply) ≤ MOST_LINE_BYTES → n + length event + 1 ≤ MOST_RECORD_LINES
    → history_on p h n LinePlace.between (event ++ recorded_reply e.reply ∷ rest) ≡ history_on p (e ∷ h) (n + length event + 1) LinePlace.between rest
entry_taken p h e n event rest legal read first second few =
    let after_reply : reply_at (n + length event + 1) (answer p h e.moment e.event) (recorded_reply e.reply) ≡ Ok e.reply =
    reply_taken (n + length event + 1) e.reply (answer p h e.moment e.event) legal (short_line (n + length event + 1) (recorded_reply e.reply) second few) in
    event_taken p h n (e.moment, e.event) event (recorded_reply e.reply ∷ rest) (is_written (length h + 1) (e.moment, e.event) event read) first (omega (arith, few))
    ∙ ap (λ r. r >>= λ reply. history_on p (entry e.moment e.event reply ∷ h) (n + length event + 1) LinePlace.between rest) after_reply

complete : (p : Plain) (g : List Entry) (lines rest : List (List ℕ)) → IsLegal p g → IsRecord g lines → IsWithinLimits lines
    → history_on p [] 0 LinePlace.between (lines ++ rest) ≡ history_on p g (length lines) LinePlace.between rest
complete p [] lines rest legal is within = ap (λ xs. history_on p [] 0 LinePlace.between (xs ++ rest)) is ∙ ap (λ xs. history_on p [] (length xs) LinePlace.between rest) (sym is)
complete p (e ∷ h) lines rest legal is within =
    let last : List (List ℕ) = recorded_reply e.reply ∷ [] in
    let whole : IsWithinLimits ((is.0 ++ is.1) ++ last) = subst IsWithinLimits is.4 within in
    let both = all_front (λ line. length line ≤ MOST_LINE_BYTES) (is.0 ++ is.1) last whole.1 in
    let fronts = all_front (λ line. length line ≤ MOST_LINE_BYTES) is.0 is.1 both.0 in
    let two = length-append (is.0 ++ is.1) last in
    let one = length-append is.0 is.1 in
    let all = ap length is.4 in
    let longer : length lines ≡ length is.0 + length is.1 + 1 = omega (arith, all, two, one) in
    let few : length is.0 + length is.1 + 1 ≤ MOST_RECORD_LINES = omega (arith, longer, within.0) in
    ap (λ xs. history_on p [] 0 LinePlace.between (xs ++ rest)) is.4
    ∙ ap (history_on p [] 0 LinePlace.between) (append_assoc (is.0 ++ is.1) last rest ∙ append_assoc is.0 is.1 (recorded_reply e.reply ∷ rest))
    ∙ complete p h is.0 (is.1 ++ recorded_reply e.reply ∷ rest) legal.0 is.2 (omega (arith, few), fronts.0)
    ∙ entry_taken p h e (length is.0) is.1 rest legal.1 is.3 fronts.1 both.1.0 few
    ∙ ap (λ n. history_on p (e ∷ h) n LinePlace.between rest) (sym longer)

-- the record of a legal history has the verdict of its counts
pub passes : (plan : Plan) (text : List ℕ) (h : List Entry) → IsLegal (opening plan 0) h → IsRecord h (parts is_line_feed text) → IsWithinLimits (parts is_line_feed text)
    → verdict plan text ≡ Ok (counts_of (opening plan 0) h)
passes plan text h legal is within =
    let lines = parts is_line_feed text in
    ap (counts_from (opening plan 0))
    (ap (history_on (opening plan 0) [] 0 LinePlace.between) (sym (append-nil (parts is_line_feed text))) ∙ complete (opening plan 0) h (parts is_line_feed text) [] legal is within)

pub same_plan : (config : List ℕ) (a b : Plan) → meaning config ≡ Ok a → meaning config ≡ Ok b → a ≡ b
same_plan config a b first second = let both = sym first ∙ second in cc

no_fault : (config text : List ℕ) (a b : Plan) (h : List Entry) (fault : CheckFault) → meaning config ≡ Ok a → meaning config ≡ Ok b → verdict a text ≡ Ok (counts_of (opening a 0) h)
    → verdict b text ≡ Err fault → ⊥
no_fault config text a b h fault first second right wrong =
    let both = sym right ∙ ap (λ c. verdict c text) (same_plan config a b first second) ∙ wrong in absurd (cc)

-- so it has no fault
pub never_wrong : (config text : List ℕ) (kind : CheckKind) (line : ℕ) (plan : Plan) (h : List Entry) → meaning config ≡ Ok plan → IsLegal (opening plan 0) h
    → IsRecord h (parts is_line_feed text) → IsWithinLimits (parts is_line_feed text) → IsFaultOf config text kind line → IsOutside kind
never_wrong config text Format line plan h means legal is within fault = no_fault config text plan fault.0 h (fault_at line Format) means fault.1 (passes plan text h legal is within) fault.2
never_wrong config text WrongReply line plan h means legal is within fault = no_fault config text plan fault.0 h (fault_at line WrongReply) means fault.1 (passes plan text h legal is within) fault.2
never_wrong config text TooLong line plan h means legal is within fault = no_fault config text plan fault.0 h (fault_at line TooLong) means fault.1 (passes plan text h legal is within) fault.2
never_wrong config text NoMemory line plan h means legal is within fault = tt
never_wrong config text Read line plan h means legal is within fault = tt
never_wrong config text (Config refused) line plan h means legal is within fault = let both = sym means ∙ fault.1 in absurd (cc)
