-- How far a replay has come.
use Rattle.std.specs.Prelude.{◌≡◌, ◌⊎◌, ℕ, List, ◌++◌, Option, Some}
use Rattle.device_core.specs.Device.{raised}
use Rattle.device_core.specs.Patience.{IsWornOut}
use Rattle.conn_model.specs.declared.plain.Plain.{Plain}
use Rattle.event_text.specs.Script.{Pending}
use Rattle.replay_core.specs.Replay.{IsFront, ReplayOutcome, before_rest}
use Rattle.replay_core.specs.Turns.{outcome_in, script_outcome_in}
use Rattle.replay_core.specs.declared.fault.ReplayFault.{ReplayFault}
use Rattle.replay_core.specs.declared.fault.ReplayFault.TheVariants.{Config, Format, TooLong, Read, Write, NoMemory}

-- The state after so many lines, with the reload of which lines are missing, if there is one, and the answers that were not yet written.
pub record ReplayProgress : Type 0 where
  pub plain : Plain
  pub reload : Option Pending
  pub before : ℕ
  pub answered : ℕ
  pub unsent : List ℕ

-- the answers that were written and those that were not, before what is to come
abbrev pub total : List ℕ → ReplayProgress → ReplayOutcome → ReplayOutcome
total sent s rest = before_rest (sent ++ s.unsent) s.answered rest

-- what comes of lines, in all
abbrev pub total_of_lines : List ℕ → ReplayProgress → List (List ℕ) → ReplayOutcome
total_of_lines sent s lines = total sent s (outcome_in s.plain s.reload s.before lines)

-- what comes of bytes, in all
abbrev pub total_of : List ℕ → ReplayProgress → List ℕ → ReplayOutcome
total_of sent s bytes = total sent s (script_outcome_in s.plain s.reload s.before bytes)

-- Whatever follows, bytes after one progress come to the same outcome as the rest of them after another.
pub record Continues (sent : List ℕ) (s : ReplayProgress) (bytes : List ℕ) (held : Option (List ℕ)) (t : ReplayProgress) (rest : List ℕ) : Type 0 where
  pub now : List ℕ
  pub is_held : held ≡ Some now
  pub same : (more : List ℕ) → total_of now t (rest ++ more) ≡ total_of sent s (bytes ++ more)

-- the fault is one of a line
abbrev pub IsLineFault : ReplayFault → Type 0
IsLineFault (Config fault) = ⊥
IsLineFault (Format line) = Unit {0}
IsLineFault (TooLong line) = Unit {0}
IsLineFault Read = ⊥
IsLineFault Write = ⊥
IsLineFault NoMemory = ⊥

-- A writer gave up: it failed once in the call, or it did not and its patience ran out.
abbrev pub GaveUp : ℕ → ℕ → ℕ → ℕ → Type 0
GaveUp before failures blocked stalls = (failures ≡ raised before) ⊎ ((failures ≡ before) × IsWornOut blocked stalls)

-- whatever follows, what is held is the front of what is written of bytes after a progress
abbrev pub IsFrontOf : List ℕ → ReplayProgress → List ℕ → Option (List ℕ) → Type 0
IsFrontOf sent s bytes held = (more : List ℕ) → IsFront held (total_of sent s (bytes ++ more)).text
