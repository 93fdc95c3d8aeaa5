-- A text that a check finds right is the record of a legal history.
use Rattle.std.proofs.Common.{◌≡◌, ℕ, ◌+◌, ◌-◌, ◌<◌, ◌≤◌, Bool, true, false, List, [], ◌∷◌, ◌++◌, length, Option, Some, None, Result, Ok, Err, refl, ap, sym, subst, ◌∙◌, append_assoc, append-nil, arith}
use Rattle.std.specs.Prelude.{nat_lt, ◌==◌, ◌||◌, if◌then◌else◌}
use Rattle.std.specs.List.{AllByRecursion}
use Rattle.std.proofs.lemmas.Bool.Decides.{nat_tests}
use Rattle.std.proofs.lemmas.List.{length-append}
use Rattle.std.proofs.lemmas.Slice.Eq.{bytes_eq-Decides}
use Rattle.list_core.specs.Each.{◌>>=◌}
use Rattle.line_reader.specs.declared.lines.TheConstants.{MOST_LINE_BYTES}
use Rattle.conn_model.specs.declared.event.OwnedEvent.{OwnedEvent}
use Rattle.conn_model.specs.declared.plain.Plain.{Plain}
use Rattle.conn_model.specs.declared.reply.Reply.{Reply}
use Rattle.conn_model.specs.declared.reply.StepFault.{StepFault}
use Rattle.conn_model.specs.History.{Entry, IsLegal, answer, entry}
use Rattle.conn_model.specs.Words.{or_fault}
use Rattle.event_text.specs.Script.{bar_text, bar_texts, words_of, EventHead}
use Rattle.audit_core.specs.Record.{numbered_event, numbered_head, recorded_reply, IsRecord}
use Rattle.audit_core.specs.Verdict.{fault_at, head_at, history_on, is_too_long, next_of, next_of_text, reply_at, text_at, IsWithinLimits, LinePlace}
use Rattle.audit_core.specs.declared.fault.TheConstants.{MOST_RECORD_LINES}
use Rattle.audit_core.specs.declared.fault.CheckFault.{CheckFault}
use Rattle.audit_core.specs.declared.fault.CheckKind.TheVariants.{Format, TooLong}
use Rattle.audit_core.proofs.LinesLemmas.{texts_count, texts_push, whole_line, whole_text}
use Rattle.audit_core.proofs.VerdictLemmas.{reply_gives}

-- a line that was read is not too long
line_gives : {T : Type 0} (too_long : Bool) (long wrong : CheckFault) (o : Option T) (x : T) → (if too_long then Err long else or_fault wrong o) ≡ Ok x → (o ≡ Some x) × (too_long ≡ false)
line_gives true long wrong o x is = absurd (cc)
line_gives false long wrong None x is = absurd (cc)
line_gives false long wrong (Some found) x is = let same : found ≡ x = cc in (ap (λ t. Some t) same, refl)

-- what a first line that was read says
head_gives : (at number : ℕ) (line : List ℕ) (head : EventHead) → head_at at number line ≡ Ok head
    → (numbered_head number (words_of line) ≡ Some head) × (is_too_long at line ≡ false)
head_gives at number line head is = line_gives (is_too_long at line) (fault_at at TooLong) (fault_at at Format) (numbered_head number (words_of line)) head is

-- and a line of a text
text_gives : (at : ℕ) (line text : List ℕ) → text_at at line ≡ Ok text → (bar_text line ≡ Some text) × (is_too_long at line ≡ false)
text_gives at line text is = line_gives (is_too_long at line) (fault_at at TooLong) (fault_at at Format) (bar_text line) text is

reply_short : (at : ℕ) (answered : Result Reply StepFault) (line : List ℕ) (reply : Reply) → reply_at at answered line ≡ Ok reply → is_too_long at line ≡ false
reply_short at answered line reply is = by (is_too_long at line) refl
  where
    by : (a : Bool) → is_too_long at line ≡ a → is_too_long at line ≡ false
    by true long = let wrong = rw long at is in absurd (cc)
    by false short = short

or_false : (a b : Bool) → (a || b) ≡ false → (a ≡ false) × (b ≡ false)
or_false true b is = absurd (cc)
or_false false b is = (refl, is)

within_line : (at : ℕ) (line : List ℕ) → is_too_long at line ≡ false → (length line ≤ MOST_LINE_BYTES) × (at ≤ MOST_RECORD_LINES)
within_line at line short =
    let both = or_false (nat_lt MOST_LINE_BYTES (length line)) (nat_lt MOST_RECORD_LINES at) short in
    let bytes = both.0 in
    let lines = both.1 in
    (grind (arith, nat_tests, bytes), grind (arith, nat_tests, lines))

all_push : (P : List ℕ → Type 0) (xs : List (List ℕ)) (x : List ℕ) → AllByRecursion P xs → P x → AllByRecursion P (xs ++ x ∷ [])
all_push P [] x all last = (last, tt)
all_push P (y ∷ ys) x all last = (all.0, all_push P ys x all.1 last)

-- the lines before, the last of which may be those of an event or of the front of one
abbrev IsFront : List Entry → LinePlace → List (List ℕ) → Type 0
IsFront h LinePlace.between front = IsRecord h front
IsFront h (LinePlace.within moment missing texts) front =
    (before : List (List ℕ)) × (first : List ℕ) × (bars : List (List ℕ)) × IsRecord h before
    × (numbered_head (length h + 1) (words_of first) ≡ Some (EventHead.reload moment (length texts + missing))) × (bar_texts bars ≡ Some texts) × (0 < missing)
    × (front ≡ before ++ first ∷ bars)
IsFront h (LinePlace.awaiting timed) front =
    (before : List (List ℕ)) × (event : List (List ℕ)) × IsRecord h before × (numbered_event (length h + 1) event ≡ Some timed) × (front ≡ before ++ event)

record Front (h : List Entry) (next : LinePlace) (before : ℕ) (front : List (List ℕ)) : Type 0 where
  pub lines : IsFront h next front
  pub within : IsWithinLimits front
  pub count : length front ≡ before

-- the lines of a text that came, and whether one is missing
front_text : (h : List Entry) (before : List (List ℕ)) (first : List ℕ) (bars : List (List ℕ)) (moment missing : ℕ) (texts : List (List ℕ)) → IsRecord h before
    → numbered_head (length h + 1) (words_of first) ≡ Some (EventHead.reload moment (length texts + missing)) → bar_texts bars ≡ Some texts
    → IsFront h (next_of_text moment missing texts) (before ++ first ∷ bars)
front_text h before first bars moment missing texts is_record head are = by (missing == 0) refl
  where
    by : (b : Bool) → (missing == 0) ≡ b → IsFront h (next_of_text moment missing texts) (before ++ first ∷ bars)
    by true none =
        let zero : missing ≡ 0 = grind (arith, nat_tests, none) in
        let counted : length bars ≡ length texts + missing = omega (arith, texts_count bars texts are, zero) in
        rw none
        (before, first ∷ bars, is_record, whole_text (length h + 1) moment (length texts + missing) first bars texts head are counted, refl)
    by false some =
        let few : 0 < missing = grind (arith, nat_tests, some) in
        rw some (before, first, bars, is_record, head, are, few, refl)

pub record Whole (p : Plain) (g : List Entry) (lines : List (List ℕ)) : Type 0 where
  pub legal : IsLegal p g
  pub is_record : IsRecord g lines
  pub within : IsWithinLimits lines

-- one line more within the limits
within_push : (front : List (List ℕ)) (before : ℕ) (line : List ℕ) → length front ≡ before → IsWithinLimits front → is_too_long (before + 1) line ≡ false
    → IsWithinLimits (front ++ line ∷ []) × (length (front ++ line ∷ []) ≡ before + 1)
within_push front before line count within short =
    let fits = within_line (before + 1) line short in
    let longer = length-append front (line ∷ []) in
    ((omega (arith, fits.1, longer, count), all_push (λ l. length l ≤ MOST_LINE_BYTES) front line within.1 fits.0), omega (arith, longer, count))

-- the first line of an event
front_head : (h : List Entry) (front : List (List ℕ)) (line : List ℕ) (head : EventHead) → IsRecord h front → numbered_head (length h + 1) (words_of line) ≡ Some head
    → IsFront h (next_of head) (front ++ line ∷ [])
front_head h front line (EventHead.whole timed) is_record is = (front, line ∷ [], is_record, whole_line (length h + 1) line timed is, refl)
front_head h front line (EventHead.reload moment count) is_record is =
    let none : List (List ℕ) = [] in
    let counted : count ≡ length none + count = omega arith in
    front_text h front line [] moment count [] is_record (is ∙ ap (λ n. Some (EventHead.reload moment n)) counted) refl

on_head : (p : Plain) (h : List Entry) (before : ℕ) (front : List (List ℕ)) (line : List ℕ) (lines : List (List ℕ)) (g : List Entry) (read : Result EventHead CheckFault)
    → head_at (before + 1) (length h + 1) line ≡ read → Front h LinePlace.between before front
    → ((next : LinePlace) → Front h next (before + 1) (front ++ line ∷ []) → history_on p h (before + 1) next lines ≡ Ok g → Whole p g ((front ++ line ∷ []) ++ lines))
    → (read >>= λ head. history_on p h (before + 1) (next_of head) lines) ≡ Ok g → Whole p g (front ++ line ∷ lines)
on_head p h before front line lines g (Err fault) reads kept goes_on is = absurd (cc)
on_head p h before front line lines g (Ok head) reads kept goes_on is =
    let gives = head_gives (before + 1) (length h + 1) line head reads in
    let push = within_push front before line kept.count kept.within gives.1 in
    subst (Whole p g) (append_assoc front (line ∷ []) lines)
    (goes_on (next_of head) (record { lines = front_head h front line head kept.lines gives.0; within = push.0; count = push.1 }) is)

-- a line of the text of a reload
on_text : (p : Plain) (h : List Entry) (before moment missing : ℕ) (texts front : List (List ℕ)) (line : List ℕ) (lines : List (List ℕ)) (g : List Entry) (read : Result (List ℕ) CheckFault)
    → text_at (before + 1) line ≡ read → Front h (LinePlace.within moment missing texts) before front
    → ((next : LinePlace) → Front h next (before + 1) (front ++ line ∷ []) → history_on p h (before + 1) next lines ≡ Ok g → Whole p g ((front ++ line ∷ []) ++ lines))
    → (read >>= λ text. history_on p h (before + 1) (next_of_text moment (missing - 1) (texts ++ text ∷ [])) lines) ≡ Ok g → Whole p g (front ++ line ∷ lines)
on_text p h before moment missing texts front line lines g (Err fault) reads kept goes_on is = absurd (cc)
on_text p h before moment missing texts front line lines g (Ok text) reads kept goes_on is =
    let gives = text_gives (before + 1) line text reads in
    let push = within_push front before line kept.count kept.within gives.1 in
    let them = kept.lines in
    let longer = length-append texts (text ∷ []) in
    let counted : length texts + missing ≡ length (texts ++ text ∷ []) + (missing - 1) = omega (arith, longer, them.6) in
    let lengthened : before_line them.0 them.1 them.2 ≡ front ++ line ∷ [] =
    sym (ap (λ xs. xs ++ line ∷ []) them.7 ∙ append_assoc them.0 (them.1 ∷ them.2) (line ∷ [])) in
    let there : IsFront h (next_of_text moment (missing - 1) (texts ++ text ∷ [])) (front ++ line ∷ []) =
    subst (IsFront h (next_of_text moment (missing - 1) (texts ++ text ∷ []))) lengthened
    (front_text h them.0 them.1 (them.2 ++ line ∷ []) moment (missing - 1) (texts ++ text ∷ []) them.3
    (them.4 ∙ ap (λ n. Some (EventHead.reload moment n)) counted) (texts_push them.2 line texts text them.5 gives.0)) in
    subst (Whole p g) (append_assoc front (line ∷ []) lines)
    (goes_on (next_of_text moment (missing - 1) (texts ++ text ∷ [])) (record { lines = there; within = push.0; count = push.1 }) is)
  where
    before_line : List (List ℕ) → List ℕ → List (List ℕ) → List (List ℕ)
    before_line earlier first bars = earlier ++ first ∷ (bars ++ line ∷ [])

on_reply : (p : Plain) (h : List Entry) (before : ℕ) (timed : ℕ × OwnedEvent) (front : List (List ℕ)) (line : List ℕ) (lines : List (List ℕ)) (g : List Entry) (read : Result Reply CheckFault)
    → reply_at (before + 1) (answer p h timed.0 timed.1) line ≡ read → IsLegal p h → Front h (LinePlace.awaiting timed) before front
    → ((reply : Reply) → IsLegal p (entry timed.0 timed.1 reply ∷ h) → Front (entry timed.0 timed.1 reply ∷ h) LinePlace.between (before + 1) (front ++ line ∷ [])
    → history_on p (entry timed.0 timed.1 reply ∷ h) (before + 1) LinePlace.between lines ≡ Ok g → Whole p g ((front ++ line ∷ []) ++ lines))
    → (read >>= λ reply. history_on p (entry timed.0 timed.1 reply ∷ h) (before + 1) LinePlace.between lines) ≡ Ok g → Whole p g (front ++ line ∷ lines)
on_reply p h before timed front line lines g (Err fault) reads legal kept next is = absurd (cc)
on_reply p h before timed front line lines g (Ok reply) reads legal kept next is =
    let gives = reply_gives (before + 1) (answer p h timed.0 timed.1) line reply reads in
    let same : line ≡ recorded_reply reply = (bytes_eq-Decides line (recorded_reply reply)).0 gives.1 in
    let short = reply_short (before + 1) (answer p h timed.0 timed.1) line reply reads in
    let push = within_push front before line kept.count kept.within short in
    let pair = kept.lines in
    let longer : front ++ line ∷ [] ≡ pair.0 ++ pair.1 ++ recorded_reply reply ∷ [] =
    ap (λ xs. xs ++ line ∷ []) pair.4 ∙ ap (λ l. pair.0 ++ pair.1 ++ l ∷ []) same in
    subst (Whole p g) (append_assoc front (line ∷ []) lines)
    (next reply (legal, gives.0) (record { lines = (pair.0, pair.1, pair.2, pair.3, longer); within = push.0; count = push.1 }) is)

sound : (p : Plain) (h : List Entry) (before : ℕ) (next : LinePlace) (front lines : List (List ℕ)) (g : List Entry) → IsLegal p h → Front h next before front
    → history_on p h before next lines ≡ Ok g → Whole p g (front ++ lines)
sound p h before LinePlace.between front [] g legal kept is =
    let same : h ≡ g = cc in
    subst (Whole p g) (sym (append-nil front)) (subst (λ k. Whole p k front) same (record { legal = legal; is_record = kept.lines; within = kept.within }))
sound p h before (LinePlace.within moment missing texts) front [] g legal kept is = absurd (cc)
sound p h before (LinePlace.awaiting timed) front [] g legal kept is = absurd (cc)
sound p h before LinePlace.between front (line ∷ lines) g legal kept is =
    on_head p h before front line lines g (head_at (before + 1) (length h + 1) line) refl kept
    (λ next there more. sound p h (before + 1) next (front ++ line ∷ []) lines g legal there more) is
sound p h before (LinePlace.within moment missing texts) front (line ∷ lines) g legal kept is =
    on_text p h before moment missing texts front line lines g (text_at (before + 1) line) refl kept
    (λ next there more. sound p h (before + 1) next (front ++ line ∷ []) lines g legal there more) is
sound p h before (LinePlace.awaiting timed) front (line ∷ lines) g legal kept is =
    on_reply p h before timed front line lines g (reply_at (before + 1) (answer p h timed.0 timed.1) line) refl legal kept
    (λ reply well there more. sound p (entry timed.0 timed.1 reply ∷ h) (before + 1) LinePlace.between (front ++ line ∷ []) lines g well there more) is

-- lines that a check finds right
pub right_record : (p : Plain) (lines : List (List ℕ)) (g : List Entry) → history_on p [] 0 LinePlace.between lines ≡ Ok g → Whole p g lines
right_record p lines g is = sound p [] 0 LinePlace.between [] lines g tt (record { lines = refl; within = (omega arith, tt); count = refl }) is
