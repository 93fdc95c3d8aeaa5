-- The names of the kinds, and how a fault is printed.
use Rattle.std.specs.Prelude.{ℕ, List, ◌++◌, codes}
use Rattle.std.specs.Fmt.{decimal}
use Rattle.conf_text.specs.declared.line.LineFault.{LineFault}
use Rattle.conf_text.specs.declared.line.LineKind.{LineKind}
use Rattle.conf_text.specs.declared.line.LineKind.TheVariants.{TooLong, TooManyWords, TooManyLines, Quoting, NotAscii, NoMemory}

abbrev pub name_of : LineKind → List ℕ
name_of TooLong = codes "TooLong"
name_of TooManyWords = codes "TooManyWords"
name_of TooManyLines = codes "TooManyLines"
name_of Quoting = codes "Quoting"
name_of NotAscii = codes "NotAscii"
name_of NoMemory = codes "NoMemory"

abbrev pub fault_text : LineFault → List ℕ
fault_text fault = codes "line " ++ (decimal fault.line ++ (codes ": " ++ name_of fault.kind))
