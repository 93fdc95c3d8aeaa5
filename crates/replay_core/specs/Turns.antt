-- What a script is answered, by the plain state alone.
use Rattle.std.specs.Prelude.{ℕ, ◌+◌, List, [], ◌∷◌, Option, Some, None, Result, Ok, Err}
use Rattle.text_core.specs.Parts.{parts, is_line_feed}
use Rattle.conn_model.specs.declared.event.OwnedEvent.{OwnedEvent}
use Rattle.conn_model.specs.declared.plain.Plain.{Plain}
use Rattle.conn_model.specs.declared.reply.Reply.{Reply}
use Rattle.conn_model.specs.declared.reply.StepFault.{StepFault}
use Rattle.conn_model.specs.Answer.{answer_in}
use Rattle.conn_model.specs.Counts.{counts_in}
use Rattle.event_text.specs.Script.{Pending}
use Rattle.event_text.specs.Replies.{count_line}
use Rattle.conn_model.specs.History.{after, entry}
use Rattle.replay_core.specs.Replay.{Asked, ReplayOutcome, answer_text, asked_at, before_rest, ending, final_outcome}
use Rattle.replay_core.specs.declared.fault.ReplayFault.{ReplayFault}

-- the state after an answer
abbrev pub plain_after : Plain → ℕ → OwnedEvent → Result Reply StepFault → Plain
plain_after p moment event (Ok reply) = after p (entry moment event reply ∷ [])
plain_after p moment event (Err fault) = p

-- what comes of a line in a state, and of the rest
abbrev pub turn : Plain → Result Asked ReplayFault → (Plain → Option Pending → ReplayOutcome) → ReplayOutcome
turn p (Err fault) rest = final_outcome (Some fault)
turn p (Ok (Asked.nothing reload)) rest = rest p reload
turn p (Ok (Asked.of_counts ask)) rest = before_rest (count_line ask (counts_in p ask)) 1 (rest p None)
turn p (Ok (Asked.of_event timed)) rest =
    before_rest (answer_text (answer_in p timed.0 timed.1)) 1 (rest (plain_after p timed.0 timed.1 (answer_in p timed.0 timed.1)) None)

-- what comes of lines in a state, after so many lines before them, where lines of a reload may be missing
abbrev pub outcome_in : Plain → Option Pending → ℕ → List (List ℕ) → ReplayOutcome
outcome_in p reload before [] = ending reload before
outcome_in p reload before (line ∷ lines) = turn p (asked_at reload (before + 1) line) (λ q next. outcome_in q next (before + 1) lines)

-- what comes of the bytes of a script
abbrev pub script_outcome_in : Plain → Option Pending → ℕ → List ℕ → ReplayOutcome
script_outcome_in p reload before script = outcome_in p reload before (parts is_line_feed script)
