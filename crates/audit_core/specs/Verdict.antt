-- What a check of a record says: its counts, or the first faulty line.
use Rattle.std.specs.Prelude.{◌≡◌, ◌≤◌, ℕ, ◌+◌, ◌-◌, ◌==◌, ◌||◌, nat_lt, nat_eq, Bool, List, [], ◌∷◌, ◌++◌, length, Result, Ok, Err, if◌then◌else◌}
use Rattle.std.specs.List.{join_with_byte, AllByRecursion, starts_with}
use Rattle.std.specs.Str.{bytes_eq}
use Rattle.list_core.specs.Each.{◌>>=◌}
use Rattle.text_core.specs.Parts.{parts, is_line_feed}
use Rattle.line_reader.specs.declared.lines.TheConstants.{MOST_LINE_BYTES}
use Rattle.plan_types.specs.declared.plan.Plan.{Plan}
use Rattle.config_core.specs.Meaning.{meaning}
use Rattle.conn_model.specs.declared.event.OwnedEvent.{OwnedEvent}
use Rattle.conn_model.specs.declared.event.OwnedEvent.TheVariants.{Reload}
use Rattle.conn_model.specs.declared.plain.Plain.{Plain}
use Rattle.conn_model.specs.declared.reply.Reply.{Reply}
use Rattle.conn_model.specs.declared.reply.StepFault.{StepFault}
use Rattle.conn_model.specs.Words.{or_fault}
use Rattle.conn_model.specs.History.{Entry, after, answer, entry, opening, IsLegal}
use Rattle.event_text.specs.Script.{bar_text, words_of, EventHead}
use Rattle.conn_model.specs.Counts.{open_connections}
use Rattle.audit_core.specs.Record.{numbered_head, recorded_reply, reply_mark, IsRecord}
use Rattle.audit_core.specs.declared.fault.TheConstants.{MOST_RECORD_LINES}
use Rattle.audit_core.specs.declared.fault.Checked.{Checked}
use Rattle.audit_core.specs.declared.fault.CheckFault.{CheckFault}
use Rattle.audit_core.specs.declared.fault.CheckKind.{CheckKind}
use Rattle.audit_core.specs.declared.fault.CheckKind.TheVariants.{Format, WrongReply, TooLong}

abbrev pub fault_at : ℕ → CheckKind → CheckFault
fault_at line kind = record { line = line; kind = kind }

-- the line is longer than any that is read, or it is one too many
abbrev pub is_too_long : ℕ → List ℕ → Bool
is_too_long at line = nat_lt MOST_LINE_BYTES (length line) || nat_lt MOST_RECORD_LINES at

-- what the first line of an event says, under the number of its entry
abbrev pub head_at : ℕ → ℕ → List ℕ → Result EventHead CheckFault
head_at at number line =
    if is_too_long at line then Err (fault_at at TooLong) else or_fault (fault_at at Format) (numbered_head number (words_of line))

-- what a line says that has to be one of the text of a reload
abbrev pub text_at : ℕ → List ℕ → Result (List ℕ) CheckFault
text_at at line = if is_too_long at line then Err (fault_at at TooLong) else or_fault (fault_at at Format) (bar_text line)

-- the reply of a line, which has to be the answer, byte for byte
abbrev pub right_reply : ℕ → Result Reply StepFault → List ℕ → Result Reply CheckFault
right_reply at (Err fault) line = Err (fault_at at WrongReply)
right_reply at (Ok reply) line = if bytes_eq line (recorded_reply reply) then Ok reply else Err (fault_at at WrongReply)

-- the same of any line in the place of a reply
abbrev pub reply_at : ℕ → Result Reply StepFault → List ℕ → Result Reply CheckFault
reply_at at answered line =
    if is_too_long at line then Err (fault_at at TooLong)
    else if starts_with nat_eq line reply_mark then right_reply at answered line
    else Err (fault_at at Format)

-- Where the next line is: between two entries, where it has to be the first one of an event; or within the text of a
-- reload at a moment, of which so many lines are missing after those that came; or where the reply to an event has to be.
pub data LinePlace : Type 0 where
  between : LinePlace
  within : ℕ → ℕ → List (List ℕ) → LinePlace
  awaiting : ℕ × OwnedEvent → LinePlace

-- what comes after those lines of a text
abbrev pub next_of_text : ℕ → ℕ → List (List ℕ) → LinePlace
next_of_text moment missing texts =
    if missing == 0 then LinePlace.awaiting (moment, Reload (join_with_byte 0x0A texts)) else LinePlace.within moment missing texts

-- what comes after the first line of an event
abbrev pub next_of : EventHead → LinePlace
next_of (EventHead.whole timed) = LinePlace.awaiting timed
next_of (EventHead.reload moment count) = next_of_text moment count []

-- the history that lines record, which go on after a history and so many lines
abbrev pub history_on : Plain → List Entry → ℕ → LinePlace → List (List ℕ) → Result (List Entry) CheckFault
history_on p h before LinePlace.between [] = Ok h
history_on p h before (LinePlace.within moment missing texts) [] = Err (fault_at (before + 1) Format)
history_on p h before (LinePlace.awaiting timed) [] = Err (fault_at (before + 1) Format)
history_on p h before LinePlace.between (line ∷ lines) = head_at (before + 1) (length h + 1) line >>= λ head. history_on p h (before + 1) (next_of head) lines
history_on p h before (LinePlace.within moment missing texts) (line ∷ lines) =
    text_at (before + 1) line >>= λ text. history_on p h (before + 1) (next_of_text moment (missing - 1) (texts ++ text ∷ [])) lines
history_on p h before (LinePlace.awaiting timed) (line ∷ lines) =
    reply_at (before + 1) (answer p h timed.0 timed.1) line >>= λ reply. history_on p (entry timed.0 timed.1 reply ∷ h) (before + 1) LinePlace.between lines

-- the counts of a history
abbrev pub counts_of : Plain → List Entry → Checked
counts_of p h = record { records = length h; live = open_connections (after p h) }

abbrev pub counts_from : Plain → Result (List Entry) CheckFault → Result Checked CheckFault
counts_from p (Ok h) = Ok (counts_of p h)
counts_from p (Err fault) = Err fault

-- what the check of a text says if a plan is opened
abbrev pub verdict : Plan → List ℕ → Result Checked CheckFault
verdict plan text = counts_from (opening plan 0) (history_on (opening plan 0) [] 0 LinePlace.between (parts is_line_feed text))

-- no line is too long, and they are not too many
abbrev pub IsWithinLimits : List (List ℕ) → Type 0
IsWithinLimits lines = (length lines ≤ MOST_RECORD_LINES) × AllByRecursion (λ line. length line ≤ MOST_LINE_BYTES) lines

-- The text is the record of a legal history from the opening of the configuration on, with these counts.
pub record IsChecked (config text : List ℕ) (checked : Checked) : Type 0 where
  pub plan : Plan
  pub history : List Entry
  pub means : meaning config ≡ Ok plan
  pub legal : IsLegal (opening plan 0) history
  pub is_record : IsRecord history (parts is_line_feed text)
  pub within : IsWithinLimits (parts is_line_feed text)
  pub counts : checked ≡ counts_of (opening plan 0) history
