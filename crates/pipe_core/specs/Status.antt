-- With which status a program ends.
use Rattle.std.specs.Prelude.{ℕ}
use Rattle.pipe_core.specs.declared.end.PipeEnd.{PipeEnd}
use Rattle.pipe_core.specs.declared.end.PipeEnd.TheVariants.{Offered, Refused, Unfinished}
use Rattle.pipe_core.specs.declared.end.PipeFault.{PipeFault}
use Rattle.pipe_core.specs.declared.end.PipeFault.TheVariants.{Config, NoFrontend, Read, Write, NoMemory}

-- 0 where the connection was offered a server, else 1
abbrev pub end_status : PipeEnd → ℕ
end_status (Offered count) = 0
end_status (Refused cause) = 1
end_status Unfinished = 1

-- 1 where what was handed in is refused, 3 where a device or memory failed
abbrev pub fault_status : PipeFault → ℕ
fault_status (Config fault) = 1
fault_status NoFrontend = 1
fault_status Read = 3
fault_status Write = 3
fault_status NoMemory = 3
