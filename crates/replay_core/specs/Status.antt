-- With which status a program ends.
use Rattle.std.specs.Prelude.{ℕ}
use Rattle.replay_core.specs.declared.fault.ReplayFault.{ReplayFault}
use Rattle.replay_core.specs.declared.fault.ReplayFault.TheVariants.{Config, Format, TooLong, Read, Write, NoMemory}

-- 1 where what was handed in is refused, 3 where a device or memory failed
abbrev pub status_of : ReplayFault → ℕ
status_of (Config fault) = 1
status_of (Format line) = 1
status_of (TooLong line) = 1
status_of Read = 3
status_of Write = 3
status_of NoMemory = 3
