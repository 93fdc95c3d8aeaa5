-- The record that is written of a history is read again.
use Rattle.std.proofs.Common.{◌≡◌, ℕ, ◌+◌, ◌<◌, ◌^◌, Bool, true, false, List, [], ◌∷◌, ◌++◌, length, Some, refl, ap, sym, ◌∙◌, append_assoc, append-nil, arith}
use Rattle.std.specs.Prelude.{codes, map, cond}
use Rattle.std.specs.List.{onto_first, All, AllByRecursion}
use Rattle.std.specs.Str.{bytes_eq}
use Rattle.std.proofs.lemmas.List.Elements.{All-append, All-cons, All-head, All-nil, All-tail}
use Rattle.std.proofs.lemmas.List.Splits.{slice_split_at}
use Rattle.std.proofs.lemmas.Slice.Eq.{bytes_eq-Decides}
use Rattle.text_core.specs.Decimal.{decimal}
use Rattle.text_core.specs.Parts.{parts, is_line_feed}
use Rattle.conn_model.specs.declared.event.OwnedEvent.{OwnedEvent}
use Rattle.conn_model.specs.declared.event.OwnedEvent.TheVariants.{Reload}
use Rattle.conn_model.specs.declared.reply.Reply.{Reply}
use Rattle.conn_model.specs.History.{Entry}
use Rattle.conn_model.specs.HandedIn.{AreHandedIn, IsHandedIn}
use Rattle.event_text.specs.Script.{◌>>=◌, ended_lines, event_line, event_with, is_mark, lines_after, text_lines, words_of}
use Rattle.event_text.specs.Replies.{reply_text}
use Rattle.event_text.proofs.EventLemmas.{event_of-lines}
use Rattle.event_text.proofs.LackLemmas.{decimal_lacks}
use Rattle.event_text.proofs.LineLemmas.{event_on_line, reply_on_line}
use Rattle.audit_core.specs.Record.{entry_lines, entry_text, history_text, numbered_event, numbered_head, numbered_lines, recorded_reply, reply_mark, IsRecord}

abbrev IsPlain : List ℕ → Type 0
IsPlain line = All (λ b. is_line_feed b ≡ false) line

-- a line and what comes after it
parts_line : (line rest : List ℕ) → IsPlain line → parts is_line_feed (line ++ 10 ∷ rest) ≡ line ∷ parts is_line_feed rest
parts_line [] rest plain = refl
parts_line (b ∷ line) rest plain =
    rw (All-head (λ c. is_line_feed c ≡ false) b line plain)
    (ap (onto_first b) (parts_line line rest (All-tail (λ c. is_line_feed c ≡ false) b line plain)))

one_plain : (b : ℕ) → is_line_feed b ≡ false → IsPlain (b ∷ [])
one_plain b is = All-cons (λ c. is_line_feed c ≡ false) b [] is (All-nil (λ c. is_line_feed c ≡ false))

both_plain : (xs ys : List ℕ) → IsPlain xs → IsPlain ys → IsPlain (xs ++ ys)
both_plain xs ys first second = All-append (λ b. is_line_feed b ≡ false) xs ys first second

first_plain : (number moment : ℕ) (event : OwnedEvent) → IsPlain (decimal number ++ codes " " ++ event_line moment event)
first_plain number moment event =
    both_plain (decimal number ++ codes " ") (event_line moment event)
    (both_plain (decimal number) (codes " ") (decimal_lacks 10 number (omega arith)) (one_plain 0x20 refl)) (event_on_line moment event)

reply_plain : (reply : Reply) → IsPlain (recorded_reply reply)
reply_plain reply =
    both_plain reply_mark (reply_text reply) (both_plain (0x3D ∷ []) (0x20 ∷ []) (one_plain 0x3D refl) (one_plain 0x20 refl)) (reply_on_line reply)

abbrev ArePlain : List (List ℕ) → Type 0
ArePlain lines = AllByRecursion IsPlain lines

first_of_split : (b : ℕ) (lines : List (List ℕ)) → is_line_feed b ≡ false → ArePlain lines → ArePlain (onto_first b lines)
first_of_split b [] is plain = (one_plain b is, tt)
first_of_split b (line ∷ lines) is plain = (All-cons (λ c. is_line_feed c ≡ false) b line is plain.0, plain.1)

-- the lines of a text
text_plain : (text : List ℕ) → ArePlain (text_lines text)
text_plain [] = (All-nil (λ c. is_line_feed c ≡ false), tt)
text_plain (b ∷ text) = by (is_line_feed b) refl (text_plain text)
  where
    by : (t : Bool) → is_line_feed b ≡ t → ArePlain (text_lines text) → ArePlain (cond (is_line_feed b) ([] ∷ text_lines text) (onto_first b (text_lines text)))
    by true is plain = rw is (All-nil (λ c. is_line_feed c ≡ false), plain)
    by false is plain = rw is (first_of_split b (text_lines text) is plain)

bars_plain : (lines : List (List ℕ)) → ArePlain lines → ArePlain (map (λ line. 0x7C ∷ line) lines)
bars_plain [] plain = tt
bars_plain (line ∷ lines) plain = (All-cons (λ c. is_line_feed c ≡ false) 0x7C line refl plain.0, bars_plain lines plain.1)

after_plain : (event : OwnedEvent) → ArePlain (lines_after event)
after_plain (Reload text) = bars_plain (text_lines text) (text_plain text)
after_plain event = tt

one_more_plain : (lines : List (List ℕ)) (line : List ℕ) → ArePlain lines → IsPlain line → ArePlain (lines ++ line ∷ [])
one_more_plain [] line plain last = (last, tt)
one_more_plain (first ∷ lines) line plain last = (plain.0, one_more_plain lines line plain.1 last)

entry_plain : (number : ℕ) (e : Entry) → ArePlain (entry_lines number e)
entry_plain number e =
    one_more_plain (numbered_lines number e.moment e.event) (recorded_reply e.reply) (first_plain number e.moment e.event, after_plain e.event) (reply_plain e.reply)

-- lines with their ends, and what comes after them
ended_parts : (lines : List (List ℕ)) (more : List ℕ) → ArePlain lines → parts is_line_feed (ended_lines lines ++ more) ≡ lines ++ parts is_line_feed more
ended_parts [] more plain = refl
ended_parts (line ∷ lines) more plain =
    ap (parts is_line_feed) (append_assoc (line ++ codes "\n") (ended_lines lines) more ∙ append_assoc line (codes "\n") (ended_lines lines ++ more))
    ∙ parts_line line (ended_lines lines ++ more) plain.0
    ∙ ap (λ ls. line ∷ ls) (ended_parts lines more plain.1)

-- the lines of an entry, and those after it
entry_parts : (number : ℕ) (e : Entry) (more : List ℕ) → parts is_line_feed (entry_text number e ++ more) ≡ entry_lines number e ++ parts is_line_feed more
entry_parts number e more = ended_parts (entry_lines number e) more (entry_plain number e)

-- the lines of a text are whole, so that whatever follows has lines of its own
abbrev Splits : List ℕ → Type 0
Splits text = (more : List ℕ) → parts is_line_feed (text ++ more) ≡ parts is_line_feed text ++ parts is_line_feed more

-- the lines of a history with an entry more
last_parts : (e : Entry) (h : List Entry) → Splits (history_text h) → parts is_line_feed (history_text (e ∷ h)) ≡ parts is_line_feed (history_text h) ++ entry_lines (length h + 1) e
last_parts e h splits =
    let text = entry_text (length h + 1) e in
    splits text
    ∙ ap (λ lines. parts is_line_feed (history_text h) ++ lines)
    (ap (parts is_line_feed) (sym (append-nil text)) ∙ entry_parts (length h + 1) e [] ∙ append-nil (entry_lines (length h + 1) e))

history_parts : (h : List Entry) → Splits (history_text h)
history_parts [] more = refl
history_parts (e ∷ h) more =
    let text = entry_text (length h + 1) e in
    ap (parts is_line_feed) (append_assoc (history_text h) text more)
    ∙ history_parts h (text ++ more)
    ∙ ap (λ lines. parts is_line_feed (history_text h) ++ lines) (entry_parts (length h + 1) e more)
    ∙ sym (append_assoc (parts is_line_feed (history_text h)) (entry_lines (length h + 1) e) (parts is_line_feed more))
    ∙ ap (λ lines. lines ++ parts is_line_feed more) (sym (last_parts e h (history_parts h)))

-- lines that write an event under its number
numbered_read : (number moment : ℕ) (event : OwnedEvent) → moment < 2 ^ 64 → IsHandedIn event → numbered_event number (numbered_lines number moment event) ≡ Some (moment, event)
numbered_read number moment event short given =
    let words : words_of (decimal number ++ codes " " ++ event_line moment event) ≡ decimal number ∷ words_of (event_line moment event) =
    ap words_of (append_assoc (decimal number) (codes " ") (event_line moment event))
    ∙ slice_split_at (is_mark 0x20) (decimal number) 0x20 (event_line moment event) (decimal_lacks 0x20 number (omega arith)) refl in
    let same : bytes_eq (decimal number) (decimal number) ≡ true = (bytes_eq-Decides (decimal number) (decimal number)).1 refl in
    ap (λ ws. numbered_head number ws >>= λ head. event_with head (lines_after event)) words ∙ rw same (event_of-lines moment event short given)

-- what is written of a history is its record
pub written_record : (h : List Entry) → AreHandedIn h → IsRecord h (parts is_line_feed (history_text h))
written_record [] given = refl
written_record (e ∷ h) given = (
  parts is_line_feed (history_text h),
  numbered_lines (length h + 1) e.moment e.event,
  written_record h given.2,
  numbered_read (length h + 1) e.moment e.event given.0 given.1,
  last_parts e h (history_parts h)
      ∙ sym (append_assoc (parts is_line_feed (history_text h)) (numbered_lines (length h + 1) e.moment e.event) (recorded_reply e.reply ∷ [])),
)
