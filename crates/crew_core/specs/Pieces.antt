-- How much of a header is read at once.
use Rattle.std.specs.Prelude.{◌≤◌}
use Rattle.device_core.specs.declared.device.Got.{Got}
use Rattle.device_core.specs.declared.device.Got.TheVariants as gots
use Rattle.device_core.specs.declared.device.TheConstants.{PIECE_BYTES}
use Rattle.crew_core.specs.declared.serving.Piece.{Piece}
use Rattle.crew_core.specs.declared.serving.Piece.TheVariants as pieces

-- a read gave no more bytes than a piece has
abbrev pub IsPiece : Got → Type 0
IsPiece (gots.Bytes count) = count ≤ PIECE_BYTES
IsPiece gots.Blocked = Unit {0}
IsPiece gots.End = Unit {0}

abbrev pub IsShort : Piece → Type 0
IsShort (pieces.Bytes count) = count ≤ PIECE_BYTES
IsShort pieces.Blocked = Unit {0}
IsShort pieces.Over = Unit {0}
