-- How a script is read.
use Rattle.std.specs.Prelude.{◌≡◌, ◌⊎◌, ℕ, Bool, true, false, List, [], ◌++◌, Option, Some}
use Rattle.device_core.specs.Device.{raised, raised_by}
use Rattle.device_core.specs.Patience.{IsWornOut}
use Rattle.device_core.specs.declared.patience.TheConstants.{MOST_READS}
use Rattle.replay_core.specs.Progress.{ReplayProgress, Continues, IsFrontOf, total, total_of}
use Rattle.replay_core.specs.Replay.{IsFront, final_outcome}
use Rattle.replay_core.specs.declared.fault.ReplayFault.{ReplayFault}
use Rattle.replay_core.specs.declared.fault.ReplayFault.TheVariants.{Config, Format, TooLong, Read, Write, NoMemory}

-- What was read of the script comes to what is kept of it comes to after another progress.
pub record Reaches (sent : List ℕ) (s : ReplayProgress) (script : List ℕ) (left held : Option (List ℕ)) (t : ReplayProgress) (kept : List ℕ) : Type 0 where
  pub got : List ℕ
  pub rest : List ℕ
  pub is_left : left ≡ Some rest
  pub is_read : script ≡ got ++ rest
  pub continues : Continues sent s got held t kept

-- All of the script was answered, or all of it before a fault.
pub record AnswersAll (sent : List ℕ) (s : ReplayProgress) (script : List ℕ) (held : Option (List ℕ)) (t : ReplayProgress) (fault : Option ReplayFault) : Type 0 where
  pub now : List ℕ
  pub is_held : held ≡ Some now
  pub same : total now t (final_outcome fault) ≡ total_of sent s script

-- What is held is the front of what is written of any script that begins with what was read.
pub record IsCut (sent : List ℕ) (s : ReplayProgress) (script : List ℕ) (left held : Option (List ℕ)) : Type 0 where
  pub got : List ℕ
  pub rest : List ℕ
  pub is_left : left ≡ Some rest
  pub is_read : script ≡ got ++ rest
  pub front : IsFrontOf sent s got held

-- The fault of a line ends it, whatever follows what was read; where nothing is left, nothing follows.
pub record StopsAtLine (sent : List ℕ) (s : ReplayProgress) (script : List ℕ) (left held : Option (List ℕ)) (t : ReplayProgress) (fault : Option ReplayFault) : Type 0 where
  pub got : List ℕ
  pub rest : List ℕ
  pub now : List ℕ
  pub is_left : left ≡ Some rest
  pub is_read : script ≡ got ++ rest
  pub is_held : held ≡ Some now
  pub same : (more : List ℕ) → (rest ≡ [] → more ≡ []) → total now t (final_outcome fault) ≡ total_of sent s (got ++ more)

-- how a fault ends a replay before the last answers are written
abbrev pub Stops : List ℕ → ReplayProgress → List ℕ → Option (List ℕ) → Option (List ℕ) → ReplayProgress → ReplayFault → Type 0
Stops sent s script left held t (Config fault) = ⊥
Stops sent s script left held t (Format line) = StopsAtLine sent s script left held t (Some (Format line))
Stops sent s script left held t (TooLong line) = StopsAtLine sent s script left held t (Some (TooLong line))
Stops sent s script left held t Read = (kept : List ℕ) × Reaches sent s script left held t kept
Stops sent s script left held t Write = IsCut sent s script left held
Stops sent s script left held t NoMemory = IsCut sent s script left held

-- what was answered before the fault is still written
abbrev pub writes_answers : ReplayFault → Bool
writes_answers (Config fault) = false
writes_answers (Format line) = true
writes_answers (TooLong line) = true
writes_answers Read = true
writes_answers Write = false
writes_answers NoMemory = false

-- All answers to a script were written, and so many they are.
pub record WritesAll (sent : List ℕ) (s : ReplayProgress) (script : List ℕ) (held : Option (List ℕ)) (lines : ℕ) (fault : Option ReplayFault) : Type 0 where
  pub ends : (total_of sent s script).fault ≡ fault
  pub wrote : held ≡ Some (total_of sent s script).text
  pub counts : (total_of sent s script).lines ≡ lines

-- All of the script was read, and what is held is the front of its answers.
pub record IsCutAfterAll (sent : List ℕ) (s : ReplayProgress) (script : List ℕ) (left held : Option (List ℕ)) : Type 0 where
  pub is_left : left ≡ Some []
  pub front : IsFront held (total_of sent s script).text

-- how a fault ends a replay
abbrev pub Ends : List ℕ → ReplayProgress → List ℕ → Option (List ℕ) → Option (List ℕ) → ℕ → ReplayFault → Type 0
Ends sent s script left held lines (Config fault) = ⊥
Ends sent s script left held lines (Format line) = WritesAll sent s script held lines (Some (Format line))
Ends sent s script left held lines (TooLong line) = WritesAll sent s script held lines (Some (TooLong line))
Ends sent s script left held lines Read = IsCut sent s script left held
Ends sent s script left held lines Write = IsCut sent s script left held ⊎ IsCutAfterAll sent s script left held
Ends sent s script left held lines NoMemory = IsCut sent s script left held

-- A reader gave up: it failed once in the call, or it did not and its patience ran out, or it was asked as often as it may be.
abbrev pub IsSpent : ℕ → ℕ → ℕ → ℕ → ℕ → ℕ → Type 0
IsSpent before failures blocked stalls called calls =
    (failures ≡ raised before) ⊎ ((failures ≡ before) × (IsWornOut blocked stalls ⊎ (calls ≡ raised_by MOST_READS called)))
