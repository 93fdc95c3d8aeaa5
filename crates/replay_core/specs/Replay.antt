-- What a script is answered.
use Rattle.std.specs.Prelude.{◌≡◌, ◌⊎◌, ℕ, Bool, ◌+◌, ◌==◌, ◌||◌, nat_lt, List, [], ◌∷◌, ◌++◌, length, slice_index, Option, Some, None, option_map, Result, Ok, Err, if◌then◌else◌}
use Rattle.text_core.specs.Parts.{parts, is_line_feed}
use Rattle.plan_types.specs.declared.plan.Plan.{Plan}
use Rattle.conn_model.specs.declared.ask.Ask.{Ask}
use Rattle.conn_model.specs.declared.event.OwnedEvent.{OwnedEvent}
use Rattle.conn_model.specs.declared.event.OwnedEvent.TheVariants.{Reload}
use Rattle.conn_model.specs.declared.plain.Plain.{Plain}
use Rattle.conn_model.specs.declared.reply.Reply.{Reply}
use Rattle.conn_model.specs.declared.reply.StepFault.{StepFault}
use Rattle.conn_model.specs.History.{Entry, answer, counts, entry, opening}
use Rattle.config_core.specs.Meaning.{meaning}
use Rattle.event_text.specs.Script.{EventHead, Pending, Wanted, bar_text, pending_reload, text_with, wanted, wanted_of, with_text, words_of}
use Rattle.event_text.specs.Replies.{count_line, fault_line, reply_line}
use Rattle.event_text.specs.declared.script.Request.{Request}
use Rattle.line_reader.specs.declared.lines.ReadFault.{ReadFault}
use Rattle.line_reader.specs.declared.lines.ReadFault.TheVariants as lines
use Rattle.line_reader.specs.declared.lines.TheConstants.{MOST_LINE_BYTES}
use Rattle.replay_core.specs.declared.session.TheConstants.{MOST_LINES}
use Rattle.replay_core.specs.declared.fault.ReplayFault.{ReplayFault}
use Rattle.replay_core.specs.declared.fault.ReplayFault.TheVariants.{Config, Format, TooLong, Read, Write, NoMemory}

-- What comes of a script: the lines of its answers, how many these are, and the fault of the line that ends it, if one does.
pub record ReplayOutcome : Type 0 where
  pub text : List ℕ
  pub lines : ℕ
  pub fault : Option ReplayFault

abbrev pub final_outcome : Option ReplayFault → ReplayOutcome
final_outcome fault = record { text = []; lines = 0; fault = fault }

-- so many answers, before what comes after them
abbrev pub before_rest : List ℕ → ℕ → ReplayOutcome → ReplayOutcome
before_rest text lines rest = record { text = text ++ rest.text; lines = lines + rest.lines; fault = rest.fault }

-- ---- one line

-- a line that is empty or begins with # asks for nothing
abbrev pub is_skipped : List ℕ → Bool
is_skipped line = length line == 0 || slice_index line 0 == 0x23

-- What a line asks for: nothing, with the reload of which lines are missing after it, if there is one; counts; or an answer to an event, which it ends.
pub data Asked : Type 0 where
  nothing : Option Pending → Asked
  of_counts : Ask → Asked
  of_event : ℕ × OwnedEvent → Asked

abbrev pub asked_by : Wanted → Asked
asked_by (Wanted.count ask) = Asked.of_counts ask
asked_by (Wanted.reply (EventHead.whole timed)) = Asked.of_event timed
asked_by (Wanted.reply (EventHead.reload moment lines)) = Asked.nothing (Some (pending_reload moment lines))

-- a reload is answered once no line of its text is missing
abbrev pub asked_with : Pending → Asked
asked_with reload = if reload.missing == 0 then Asked.of_event (reload.moment, Reload (text_with reload [])) else Asked.nothing (Some reload)

-- What a line asks for, if it has its form. Where lines of a reload are missing it is the next of them.
abbrev pub asked_in : Option Pending → List ℕ → Option Asked
asked_in None line = if is_skipped line then Some (Asked.nothing None) else option_map asked_by (wanted_of (words_of line))
asked_in (Some reload) line = option_map (λ text. asked_with (with_text reload text)) (bar_text line)

abbrev pub asked_else : ℕ → Option Asked → Result Asked ReplayFault
asked_else number None = Err (Format number)
asked_else number (Some asked) = Ok asked

-- what the line of that number asks for, or what is wrong with it
abbrev pub asked_at : Option Pending → ℕ → List ℕ → Result Asked ReplayFault
asked_at reload number line =
    if nat_lt MOST_LINE_BYTES (length line) || nat_lt MOST_LINES number then Err (TooLong number) else asked_else number (asked_in reload line)

-- what ends a replay where no line of that number comes
abbrev pub script_fault : ℕ → ReadFault → ReplayFault
script_fault number lines.TooLong = TooLong number
script_fault number lines.Read = Read
script_fault number lines.NoMemory = NoMemory

-- what was read of a line outside a reload, where the bytes of a piece are in front of a buffer
abbrev pub asked_of : List ℕ → Option Request → Asked
asked_of buffer None = Asked.nothing None
asked_of buffer (Some request) = asked_by (wanted buffer request)

abbrev pub asked_read : List ℕ → Result (Option Request) ReplayFault → Result Asked ReplayFault
asked_read buffer (Ok request) = Ok (asked_of buffer request)
asked_read buffer (Err fault) = Err fault

-- ---- the lines of a script

-- the line of an answer
abbrev pub answer_text : Result Reply StepFault → List ℕ
answer_text (Ok reply) = reply_line reply
answer_text (Err fault) = fault_line fault

-- the history after an answer: a fault leaves it as it was
abbrev pub history_after : List Entry → ℕ → OwnedEvent → Result Reply StepFault → List Entry
history_after h moment event (Ok reply) = entry moment event reply ∷ h
history_after h moment event (Err fault) = h

-- what comes of a line after a history, and of the rest
abbrev pub after_line : Plain → List Entry → Result Asked ReplayFault → (List Entry → Option Pending → ReplayOutcome) → ReplayOutcome
after_line p h (Err fault) rest = final_outcome (Some fault)
after_line p h (Ok (Asked.nothing reload)) rest = rest h reload
after_line p h (Ok (Asked.of_counts ask)) rest = before_rest (count_line ask (counts p h ask)) 1 (rest h None)
after_line p h (Ok (Asked.of_event timed)) rest =
    let answered = answer p h timed.0 timed.1 in before_rest (answer_text answered) 1 (rest (history_after h timed.0 timed.1 answered) None)

-- after the last line: where lines of a reload are missing, the next one lacks its form
abbrev pub ending : Option Pending → ℕ → ReplayOutcome
ending None before = final_outcome None
ending (Some reload) before = final_outcome (Some (Format (before + 1)))

-- what comes of lines, after a history and so many lines, where lines of a reload may be missing
abbrev pub outcome : Plain → List Entry → Option Pending → ℕ → List (List ℕ) → ReplayOutcome
outcome p h reload before [] = ending reload before
outcome p h reload before (line ∷ lines) = after_line p h (asked_at reload (before + 1) line) (λ g next. outcome p g next (before + 1) lines)

-- what comes of a script where a plan is opened
abbrev pub script_outcome : Plan → List ℕ → ReplayOutcome
script_outcome plan script = outcome (opening plan 0) [] None 0 (parts is_line_feed script)

-- ---- a whole replay

-- what is held is the front of a text
abbrev pub IsFront : Option (List ℕ) → List ℕ → Type 0
IsFront held text = (now : List ℕ) × (rest : List ℕ) × (held ≡ Some now) × (text ≡ now ++ rest)

-- The configuration has a meaning, each event of the script was answered, and the answers, so many, come after what was written before.
pub record IsReplayed (config script sent : List ℕ) (held : Option (List ℕ)) (lines : ℕ) : Type 0 where
  pub plan : Plan
  pub means : meaning config ≡ Ok plan
  pub ends : (script_outcome plan script).fault ≡ None
  pub wrote : held ≡ Some (sent ++ (script_outcome plan script).text)
  pub counts : (script_outcome plan script).lines ≡ lines

-- A line of the script is wrong, and the answers to all events before it come after what was written before.
pub record IsStopped (config script sent : List ℕ) (held : Option (List ℕ)) (fault : ReplayFault) : Type 0 where
  pub plan : Plan
  pub means : meaning config ≡ Ok plan
  pub ends : (script_outcome plan script).fault ≡ Some fault
  pub wrote : held ≡ Some (sent ++ (script_outcome plan script).text)

-- What was written is the front of the answers to whatever script begins with what was read. So no line is answered before its end.
pub record IsCutShort (config script sent : List ℕ) (left held : Option (List ℕ)) : Type 0 where
  pub plan : Plan
  pub means : meaning config ≡ Ok plan
  pub got : List ℕ
  pub rest : List ℕ
  pub is_left : left ≡ Some rest
  pub is_read : script ≡ got ++ rest
  pub front : (more : List ℕ) → IsFront held (sent ++ (script_outcome plan (got ++ more)).text)

-- All of the script was read, and what was written is the front of its answers.
pub record IsCutAtEnd (config script sent : List ℕ) (left held : Option (List ℕ)) : Type 0 where
  pub plan : Plan
  pub means : meaning config ≡ Ok plan
  pub is_left : left ≡ Some []
  pub front : IsFront held (sent ++ (script_outcome plan script).text)

-- how a replay ends early
abbrev pub IsEndedBy : List ℕ → List ℕ → List ℕ → Option (List ℕ) → Option (List ℕ) → ReplayFault → Type 0
IsEndedBy config script sent left held (Config fault) = (meaning config ≡ Err fault) × (held ≡ Some sent)
IsEndedBy config script sent left held (Format line) = IsStopped config script sent held (Format line)
IsEndedBy config script sent left held (TooLong line) = IsStopped config script sent held (TooLong line)
IsEndedBy config script sent left held Read = IsCutShort config script sent left held
IsEndedBy config script sent left held Write = IsCutShort config script sent left held ⊎ IsCutAtEnd config script sent left held
IsEndedBy config script sent left held NoMemory = (held ≡ Some sent) ⊎ IsCutShort config script sent left held
