-- What a pass does: one fill, then one drain.
use Rattle.std.specs.Prelude.{◌≡◌, ℕ, Option, List, [], length, take, drop, Result, Ok, Err}
use Rattle.device_core.specs.Device.{raised}
use Rattle.relay_core.specs.declared.flow.Filled.{Filled}
use Rattle.relay_core.specs.declared.flow.FlowFault.{FlowFault}
use Rattle.relay_core.specs.declared.flow.FlowFault.TheVariants.{Read, Write}
use Rattle.relay_core.specs.declared.pass.Passed.{Passed}
use Rattle.relay_core.specs.Flow.{Held, read_in, after_fill, drained_count, drain_calls, drain_stalls, asks_reader, IsFillAnswer}

-- what a pass read in: the front of the piece, or after a failed write what is held more than before
abbrev pub pass_read : Result Passed FlowFault → Held → Held → List ℕ → List ℕ
pass_read (Ok moved) old new piece = read_in (Ok moved.filled) piece
pass_read (Err Read) old new piece = []
pass_read (Err Write) old new piece = drop (length old.bytes) new.bytes

-- what a pass wrote out: the first of what was held, followed by what was read in
abbrev pub pass_written : Result Passed FlowFault → Held → List ℕ → List ℕ
pass_written (Ok moved) old piece = take (drained_count (Ok moved.drained)) (after_fill old (Ok moved.filled) piece).bytes
pass_written (Err fault) old piece = []

-- the reader's failures after a pass, and the writer's
abbrev pub pass_read_failures : Result Passed FlowFault → ℕ → ℕ
pass_read_failures (Ok moved) count = count
pass_read_failures (Err Read) count = raised count
pass_read_failures (Err Write) count = count

abbrev pub pass_write_failures : Result Passed FlowFault → ℕ → ℕ
pass_write_failures (Ok moved) count = count
pass_write_failures (Err Read) count = count
pass_write_failures (Err Write) count = raised count

-- the writer's calls, and its blocked calls in a row after a pass
abbrev pub pass_write_calls : Result Passed FlowFault → ℕ → ℕ
pass_write_calls (Ok moved) count = drain_calls (Ok moved.drained) count
pass_write_calls (Err Read) count = count
pass_write_calls (Err Write) count = raised count

abbrev pub pass_write_stalls : Result Passed FlowFault → ℕ → ℕ
pass_write_stalls (Ok moved) count = drain_stalls (Ok moved.drained) count
pass_write_stalls (Err Read) count = count
pass_write_stalls (Err Write) count = 0

-- The new flow is the old one after some fill with a piece of that length.
abbrev pub HasFilled : Held → Held → ℕ → List ℕ → Option (List ℕ) → Type 0
HasFilled old new size piece left =
    (filled : Filled) × IsFillAnswer (asks_reader old) old size left (Ok filled) × (new ≡ after_fill old (Ok filled) piece)
