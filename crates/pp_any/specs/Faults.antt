-- The faults of a header of either version.
use Rattle.pp_v1.specs.declared.reading.V1Fault.{V1Fault}
use Rattle.pp_v1.specs.declared.reading.V1Fault.TheVariants as lines
use Rattle.pp_v2.specs.declared.fault.V2Fault.{V2Fault}
use Rattle.pp_v2.specs.declared.fault.V2Fault.TheVariants as heads
use Rattle.pp_any.specs.declared.fault.HeaderFault.{HeaderFault}
use Rattle.pp_any.specs.declared.fault.HeaderFault.TheVariants.{NotProxy, BadLine, BadAddress, BadPort, BadVersion, BadCommand, BadFamily, ShortBlock}

abbrev pub of_line : V1Fault → HeaderFault
of_line lines.BadLine = BadLine
of_line lines.BadAddress = BadAddress
of_line lines.BadPort = BadPort

abbrev pub of_head : V2Fault → HeaderFault
of_head heads.NotProxy = NotProxy
of_head heads.BadVersion = BadVersion
of_head heads.BadCommand = BadCommand
of_head heads.BadFamily = BadFamily
of_head heads.ShortBlock = ShortBlock
