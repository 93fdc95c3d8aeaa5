-- What a flow holds, and what a fill and a drain do to it.
use Rattle.std.specs.Prelude.{◌≡◌, ℕ, ◌-◌, ◌<◌, ◌≤◌, Bool, true, false, ◌&&◌, not, nat_lt, min, List, [], ◌∷◌, ◌++◌, length, take, drop, Option, Result, Ok, Err, IsTrue, if◌then◌else◌}
use Rattle.std.specs.Io.KnownBytes.{IsAtEnd}
use Rattle.device_core.specs.Device.{raised}
use Rattle.relay_core.specs.declared.flow.Filled.{Filled}
use Rattle.relay_core.specs.declared.flow.Filled.TheVariants as filled
use Rattle.relay_core.specs.declared.flow.Drained.{Drained}
use Rattle.relay_core.specs.declared.flow.Drained.TheVariants as drained
use Rattle.relay_core.specs.declared.flow.FlowFault.{FlowFault}
use Rattle.relay_core.specs.declared.flow.FlowFault.TheVariants.{Read, Write}

-- the bytes on their way, whether the reader's end came, and how many bytes there may be
pub record Held : Type 0 where
  pub bytes : List ℕ
  pub ended : Bool
  pub capacity : ℕ

abbrev pub room : Held → ℕ
room flow = flow.capacity - length flow.bytes

-- the end came, and nothing is held
abbrev pub IsDone : Held → Type 0
IsDone flow = IsTrue flow.ended × (flow.bytes ≡ [])

-- the end did not come, and nothing is held
abbrev pub IsIdle : Held → Type 0
IsIdle flow = (flow.ended ≡ false) × (flow.bytes ≡ [])

-- a fill asks the reader where the end did not come and there is room
abbrev pub asks_reader : Held → Bool
asks_reader flow = not flow.ended && nat_lt 0 (room flow)

-- What one read of at most so many bytes gives, from a reader with those left.
abbrev pub IsReadAnswer : ℕ → Option (List ℕ) → Result Filled FlowFault → Type 0
IsReadAnswer most left (Ok (filled.Bytes n)) = (0 < n) × (n ≤ most)
IsReadAnswer most left (Ok filled.End) = IsAtEnd left
IsReadAnswer most left (Ok filled.Blocked) = Unit {0}
IsReadAnswer most left (Ok filled.NoRoom) = ⊥
IsReadAnswer most left (Err e) = e ≡ Read

-- What a fill with a piece of that length answers, by whether it asks the reader.
abbrev pub IsFillAnswer : Bool → Held → ℕ → Option (List ℕ) → Result Filled FlowFault → Type 0
IsFillAnswer false flow piece left answer = answer ≡ Ok (if flow.ended then filled.End else filled.NoRoom)
IsFillAnswer true flow piece left answer = IsReadAnswer (min piece (room flow)) left answer

-- what was read in: the front of the piece
abbrev pub read_in : Result Filled FlowFault → List ℕ → List ℕ
read_in (Ok (filled.Bytes n)) piece = take n piece
read_in (Ok filled.End) piece = []
read_in (Ok filled.Blocked) piece = []
read_in (Ok filled.NoRoom) piece = []
read_in (Err e) piece = []

-- the flow after a fill
abbrev pub after_fill : Held → Result Filled FlowFault → List ℕ → Held
after_fill flow (Ok (filled.Bytes n)) piece = record flow { bytes = flow.bytes ++ take n piece }
after_fill flow (Ok filled.End) piece = record flow { ended = true }
after_fill flow (Ok filled.Blocked) piece = flow
after_fill flow (Ok filled.NoRoom) piece = flow
after_fill flow (Err e) piece = flow

-- the reader's calls, its failures, and its blocked calls in a row after a fill
abbrev pub fill_calls : Bool → ℕ → ℕ
fill_calls asks count = if asks then raised count else count

abbrev pub fill_failures : Result Filled FlowFault → ℕ → ℕ
fill_failures (Ok answer) count = count
fill_failures (Err e) count = raised count

abbrev pub fill_stalls : Bool → Result Filled FlowFault → ℕ → ℕ
fill_stalls false answer count = count
fill_stalls true (Ok (filled.Bytes n)) count = 0
fill_stalls true (Ok filled.End) count = 0
fill_stalls true (Ok filled.Blocked) count = raised count
fill_stalls true (Ok filled.NoRoom) count = count
fill_stalls true (Err e) count = 0

-- What one write of so many bytes answers.
abbrev pub IsWriteAnswer : ℕ → Result Drained FlowFault → Type 0
IsWriteAnswer count (Ok (drained.Bytes n)) = (0 < n) × (n ≤ count)
IsWriteAnswer count (Ok drained.Blocked) = Unit {0}
IsWriteAnswer count (Ok drained.Empty) = ⊥
IsWriteAnswer count (Err e) = e ≡ Write

-- What a drain answers: it asks the writer where something is held.
abbrev pub IsDrainAnswer : List ℕ → Result Drained FlowFault → Type 0
IsDrainAnswer [] answer = answer ≡ Ok drained.Empty
IsDrainAnswer (byte ∷ bytes) answer = IsWriteAnswer (length (byte ∷ bytes)) answer

-- how many of the held bytes were written out
abbrev pub drained_count : Result Drained FlowFault → ℕ
drained_count (Ok (drained.Bytes n)) = n
drained_count (Ok drained.Blocked) = 0
drained_count (Ok drained.Empty) = 0
drained_count (Err e) = 0

-- the flow after a drain
abbrev pub after_drain : Held → Result Drained FlowFault → Held
after_drain flow answer = record flow { bytes = drop (drained_count answer) flow.bytes }

-- the writer's calls, its failures, and its blocked calls in a row after a drain
abbrev pub drain_calls : Result Drained FlowFault → ℕ → ℕ
drain_calls (Ok (drained.Bytes n)) count = raised count
drain_calls (Ok drained.Blocked) count = raised count
drain_calls (Ok drained.Empty) count = count
drain_calls (Err e) count = raised count

abbrev pub drain_failures : Result Drained FlowFault → ℕ → ℕ
drain_failures (Ok answer) count = count
drain_failures (Err e) count = raised count

abbrev pub drain_stalls : Result Drained FlowFault → ℕ → ℕ
drain_stalls (Ok (drained.Bytes n)) count = 0
drain_stalls (Ok drained.Blocked) count = raised count
drain_stalls (Ok drained.Empty) count = count
drain_stalls (Err e) count = 0
