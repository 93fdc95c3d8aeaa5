-- What a burst does: several reads into one piece, then one write.
use Rattle.std.specs.Prelude.{◌≡◌, ℕ, zero, suc, ◌+◌, ◌-◌, ◌*◌, ◌<◌, ◌≤◌, nat_lt, min, Bool, true, false, ◌||◌, List, [], ◌∷◌, ◌++◌, length, take, drop, Option, None, Some, Result, Ok, Err, if◌then◌else◌}
use Rattle.device_core.specs.Device.{raised, raised_by}
use Rattle.relay_core.specs.declared.flow.FlowFault.{FlowFault}
use Rattle.relay_core.specs.declared.flow.FlowFault.TheVariants.{Read, Write}
use Rattle.relay_core.specs.declared.flow.Filled.{Filled}
use Rattle.relay_core.specs.declared.flow.Filled.TheVariants as filled
use Rattle.relay_core.specs.declared.burst.BurstStop.{BurstStop}
use Rattle.relay_core.specs.declared.burst.BurstStop.TheVariants as stop
use Rattle.relay_core.specs.declared.burst.Burst.{Burst}
use Rattle.relay_core.specs.Flow.{Held, room, asks_reader, drained_count, drain_calls, drain_stalls}

-- how many bytes a burst reads at most: where nothing is held it fills the piece, else it reads once
abbrev pub burst_limit : List ℕ → ℕ → ℕ → ℕ → ℕ
burst_limit [] room most piece = min room piece
burst_limit (byte ∷ bytes) room most piece = min room most

-- The bytes are all that was left, where the reader tells.
abbrev pub IsAllOf : Option (List ℕ) → List ℕ → Type 0
IsAllOf None bytes = Unit {0}
IsAllOf (Some left) bytes = left ≡ bytes

-- Why so many bytes of at most that many were read.
abbrev pub IsStop : ℕ → ℕ → Option (List ℕ) → List ℕ → Result BurstStop FlowFault → Type 0
IsStop count limit left piece (Ok stop.Full) = count ≡ limit
IsStop count limit left piece (Ok stop.Short) = (0 < count) × (count < limit)
IsStop count limit left piece (Ok stop.Blocked) = count < limit
IsStop count limit left piece (Ok stop.End) = (count < limit) × IsAllOf left (take count piece)
IsStop count limit left piece (Ok stop.NoRoom) = ⊥
IsStop count limit left piece (Err e) = (count < limit) × (e ≡ Read)

-- The same of a burst, by whether it asks the reader.
abbrev pub IsBurstStop : Bool → Held → ℕ → ℕ → Option (List ℕ) → List ℕ → Result BurstStop FlowFault → Type 0
IsBurstStop false flow count limit left piece answer = (count ≡ 0) × (answer ≡ Ok (if flow.ended then stop.End else stop.NoRoom))
IsBurstStop true flow count limit left piece answer = IsStop count limit left piece answer

abbrev pub is_end : Result BurstStop FlowFault → Bool
is_end (Ok stop.Full) = false
is_end (Ok stop.Short) = false
is_end (Ok stop.Blocked) = false
is_end (Ok stop.End) = true
is_end (Ok stop.NoRoom) = false
is_end (Err e) = false

-- the flow after the reads of a burst
abbrev pub after_reads : Held → ℕ → Result BurstStop FlowFault → List ℕ → Held
after_reads flow count answer piece = record flow { bytes = flow.bytes ++ take count piece; ended = flow.ended || is_end answer }

-- So many bytes came in by reads of at most `most` bytes each, and by one more of them at most than so many bytes fill.
abbrev pub HasAsked : Bool → ℕ → ℕ → ℕ → ℕ → Type 0
HasAsked false most count old new = new ≡ old
HasAsked true most count old new = (n : ℕ) × (0 < n) × (count ≤ n * most) × (n * most ≤ count + most) × (new ≡ raised_by n old)

-- the reader's failures, and its blocked calls in a row after the reads of a burst
abbrev pub stop_failures : Result BurstStop FlowFault → ℕ → ℕ
stop_failures (Ok answer) count = count
stop_failures (Err e) count = raised count

-- the blocked calls in a row after reads that gave so many bytes
abbrev pub stalls_before : ℕ → ℕ → ℕ
stalls_before zero stalls = stalls
stalls_before (suc count) stalls = 0

abbrev pub stop_stalls : Bool → ℕ → Result BurstStop FlowFault → ℕ → ℕ
stop_stalls false count answer stalls = stalls
stop_stalls true count (Ok stop.Full) stalls = 0
stop_stalls true count (Ok stop.Short) stalls = 0
stop_stalls true count (Ok stop.Blocked) stalls = raised (stalls_before count stalls)
stop_stalls true count (Ok stop.End) stalls = 0
stop_stalls true count (Ok stop.NoRoom) stalls = stalls
stop_stalls true count (Err e) stalls = 0

-- how many bytes a single fill read, and why no more, where it asked for so many
abbrev pub fill_count : Result Filled FlowFault → ℕ
fill_count (Ok (filled.Bytes n)) = n
fill_count (Ok filled.End) = 0
fill_count (Ok filled.Blocked) = 0
fill_count (Ok filled.NoRoom) = 0
fill_count (Err e) = 0

abbrev pub fill_stop : Result Filled FlowFault → ℕ → Result BurstStop FlowFault
fill_stop (Ok (filled.Bytes n)) limit = Ok (if nat_lt n limit then stop.Short else stop.Full)
fill_stop (Ok filled.End) limit = Ok stop.End
fill_stop (Ok filled.Blocked) limit = Ok stop.Blocked
fill_stop (Ok filled.NoRoom) limit = Ok stop.NoRoom
fill_stop (Err e) limit = Err e

-- The bytes follow those that were held, and none was written.
abbrev pub IsHeld : Held → Held → ℕ → List ℕ → Type 0
IsHeld old new count piece =
    (old.bytes ++ take count piece ≡ new.bytes) × (drop (length old.bytes) new.bytes ≡ take count piece) × (length new.bytes - length old.bytes ≡ count)

-- what a burst read: the front of the piece, or after a fault what is held more than before
abbrev pub burst_read : Result Burst FlowFault → Held → Held → List ℕ → List ℕ
burst_read (Ok burst) old new piece = take burst.read piece
burst_read (Err fault) old new piece = drop (length old.bytes) new.bytes

abbrev pub burst_count : Result Burst FlowFault → Held → Held → ℕ
burst_count (Ok burst) old new = burst.read
burst_count (Err fault) old new = length new.bytes - length old.bytes

-- what a burst wrote: the first of what was held, followed by what was read
abbrev pub burst_written : Result Burst FlowFault → Held → List ℕ → List ℕ
burst_written (Ok burst) old piece = take (drained_count (Ok burst.drained)) (old.bytes ++ take burst.read piece)
burst_written (Err fault) old piece = []

-- the reader's failures after a burst, and the writer's
abbrev pub burst_read_failures : Result Burst FlowFault → ℕ → ℕ
burst_read_failures (Ok burst) count = count
burst_read_failures (Err Read) count = raised count
burst_read_failures (Err Write) count = count

abbrev pub burst_write_failures : Result Burst FlowFault → ℕ → ℕ
burst_write_failures (Ok burst) count = count
burst_write_failures (Err Read) count = count
burst_write_failures (Err Write) count = raised count

-- the writer's calls, and its blocked calls in a row after a burst
abbrev pub burst_write_calls : Result Burst FlowFault → ℕ → ℕ
burst_write_calls (Ok burst) count = drain_calls (Ok burst.drained) count
burst_write_calls (Err Read) count = count
burst_write_calls (Err Write) count = raised count

abbrev pub burst_write_stalls : Result Burst FlowFault → ℕ → ℕ
burst_write_stalls (Ok burst) count = drain_stalls (Ok burst.drained) count
burst_write_stalls (Err Read) count = count
burst_write_stalls (Err Write) count = 0

-- The new flow is the old one after reads of at most so many bytes, which ended so or without a fault.
abbrev pub HasGathered : Held → Held → ℕ → Option (List ℕ) → List ℕ → Result BurstStop FlowFault → Type 0
HasGathered old new limit left piece answer =
    (count : ℕ) × IsBurstStop (asks_reader old) old count limit left piece answer × (new ≡ after_reads old count answer piece)

-- The same, where the reads came to no fault.
abbrev pub HasStopped : Held → Held → ℕ → Option (List ℕ) → List ℕ → Type 0
HasStopped old new limit left piece = (stop : BurstStop) × HasGathered old new limit left piece (Ok stop)
