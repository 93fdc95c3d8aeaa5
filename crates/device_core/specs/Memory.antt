-- Devices in memory.
use Rattle.std.specs.Prelude.{◌≡◌, ℕ, ◌-◌, ◌<◌, ◌==◌, min, List, [], ◌++◌, length, take, drop, Result, Ok, Err, if◌then◌else◌}
use Rattle.device_core.specs.Device.{raised, failures_after, read_stalls, write_stalls}
use Rattle.device_core.specs.Schedule.{Turns, turn_of}
use Rattle.device_core.specs.declared.device.Got.{Got}
use Rattle.device_core.specs.declared.device.Got.TheVariants as got
use Rattle.device_core.specs.declared.device.Put.{Put}
use Rattle.device_core.specs.declared.device.Put.TheVariants as put
use Rattle.device_core.specs.declared.device.Failed.{Failed}
use Rattle.device_core.specs.declared.schedule.Turn.{Turn}
use Rattle.device_core.specs.declared.schedule.Turn.TheVariants.{Fails, Blocks, Moves}

-- a reader of bytes in memory, with those that are left
pub record MemoryReader : Type 0 where
  pub left : List ℕ
  pub turns : Turns
  pub failures : ℕ
  pub calls : ℕ
  pub stalls : ℕ

-- the bytes that a read gives
abbrev pub got_count : Result Got Failed → ℕ
got_count (Ok (got.Bytes n)) = n
got_count (Ok got.End) = 0
got_count (Ok got.Blocked) = 0
got_count (Err e) = 0

-- bytes are some, and the end is reported where none are left
abbrev pub IsFairRead : Result Got Failed → List ℕ → Type 0
IsFairRead (Ok (got.Bytes n)) left = 0 < n
IsFairRead (Ok got.End) left = left ≡ []
IsFairRead (Ok got.Blocked) left = Unit {0}
IsFairRead (Err e) left = Unit {0}

-- what a read into so much room answers, by how its turn goes
abbrev pub read_at : Turn → MemoryReader → ℕ → Result Got Failed
read_at Fails reader room = Err (record {})
read_at Blocks reader room = Ok got.Blocked
read_at Moves reader room =
    if length reader.left == 0 then Ok got.End else Ok (got.Bytes (min (min (length reader.left) reader.turns.per_call) room))

abbrev pub read_answer : MemoryReader → ℕ → Result Got Failed
read_answer reader room = read_at (turn_of reader.turns reader.calls) reader room

-- the reader after that answer
abbrev pub after_read : MemoryReader → Result Got Failed → MemoryReader
after_read reader answer = record {
  left = drop (got_count answer) reader.left;
  turns = reader.turns;
  failures = failures_after answer reader.failures;
  calls = raised reader.calls;
  stalls = read_stalls answer reader.stalls;
}

-- a writer into memory of that room, with the bytes that it holds
pub record MemoryWriter : Type 0 where
  pub held : List ℕ
  pub room : ℕ
  pub turns : Turns
  pub failures : ℕ
  pub calls : ℕ
  pub stalls : ℕ

-- the bytes that a write takes
abbrev pub put_count : Result Put Failed → ℕ
put_count (Ok (put.Bytes n)) = n
put_count (Ok put.Blocked) = 0
put_count (Err e) = 0

-- bytes are some
abbrev pub IsFairWrite : Result Put Failed → Type 0
IsFairWrite (Ok (put.Bytes n)) = 0 < n
IsFairWrite (Ok put.Blocked) = Unit {0}
IsFairWrite (Err e) = Unit {0}

-- what a write of so many bytes answers, by how its turn goes
abbrev pub write_at : Turn → MemoryWriter → ℕ → Result Put Failed
write_at Fails writer count = Err (record {})
write_at Blocks writer count = Ok put.Blocked
write_at Moves writer count =
    if writer.room - length writer.held == 0 then Err (record {})
    else Ok (put.Bytes (min (min (writer.room - length writer.held) writer.turns.per_call) count))

abbrev pub write_answer : MemoryWriter → ℕ → Result Put Failed
write_answer writer count = write_at (turn_of writer.turns writer.calls) writer count

-- the writer after that answer to a write of those bytes
abbrev pub after_write : MemoryWriter → List ℕ → Result Put Failed → MemoryWriter
after_write writer bytes answer = record {
  held = writer.held ++ take (put_count answer) bytes;
  room = writer.room;
  turns = writer.turns;
  failures = failures_after answer writer.failures;
  calls = raised writer.calls;
  stalls = write_stalls answer writer.stalls;
}
