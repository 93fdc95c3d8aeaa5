-- Records: a history as the lines of a text.
use Rattle.std.specs.Prelude.{◌≡◌, ℕ, ◌+◌, List, [], ◌∷◌, ◌++◌, length, codes, Option, Some, None, if◌then◌else◌}
use Rattle.std.specs.Str.{bytes_eq}
use Rattle.text_core.specs.Decimal.{decimal}
use Rattle.conn_model.specs.declared.event.OwnedEvent.{OwnedEvent}
use Rattle.conn_model.specs.declared.reply.Reply.{Reply}
use Rattle.conn_model.specs.History.{Entry}
use Rattle.event_text.specs.Script.{◌>>=◌, ended_lines, event_line, event_with, head_of, lines_after, words_of, EventHead}
use Rattle.event_text.specs.Replies.{reply_text}

-- what the first line of an event says, which has the event after that number
abbrev pub numbered_head : ℕ → List (List ℕ) → Option EventHead
numbered_head number [] = None
numbered_head number (word ∷ words) = if bytes_eq word (decimal number) then head_of words else None

-- the event of its lines, under that number
abbrev pub numbered_event : ℕ → List (List ℕ) → Option (ℕ × OwnedEvent)
numbered_event number [] = None
numbered_event number (line ∷ lines) = numbered_head number (words_of line) >>= λ head. event_with head lines

abbrev pub reply_mark : List ℕ
reply_mark = codes "= "

-- the line of a reply
abbrev pub recorded_reply : Reply → List ℕ
recorded_reply reply = reply_mark ++ reply_text reply

-- the lines that write an event under a number: that of its first line is before it
abbrev pub numbered_lines : ℕ → ℕ → OwnedEvent → List (List ℕ)
numbered_lines number moment event = (decimal number ++ codes " " ++ event_line moment event) ∷ lines_after event

-- the lines of an entry: its event under its number, and its reply
abbrev pub entry_lines : ℕ → Entry → List (List ℕ)
entry_lines number e = numbered_lines number e.moment e.event ++ recorded_reply e.reply ∷ []

-- its text: these lines, each with its end
abbrev pub entry_text : ℕ → Entry → List ℕ
entry_text number e = ended_lines (entry_lines number e)

-- the record that is written of a history: each entry under its number, from 1, the oldest first
abbrev pub history_text : List Entry → List ℕ
history_text [] = []
history_text (e ∷ h) = history_text h ++ entry_text (length h + 1) e

-- The lines record the history: of each entry, the oldest first, the lines of its event under its number, from 1, and
-- then its reply.
abbrev pub IsRecord : List Entry → List (List ℕ) → Type 0
IsRecord [] lines = lines ≡ []
IsRecord (e ∷ h) lines =
    (before : List (List ℕ)) × (event : List (List ℕ)) × IsRecord h before
    × (numbered_event (length h + 1) event ≡ Some (e.moment, e.event))
    × (lines ≡ before ++ event ++ recorded_reply e.reply ∷ [])
