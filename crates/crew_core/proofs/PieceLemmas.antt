-- What a read gave has room in its buffer.
use Rattle.std.proofs.Common.{◌≤◌, ℕ, List, Option, Result, Ok, Err, length, IfOk, arith}
use Rattle.device_core.specs.Device.{Reads}
use Rattle.device_core.specs.declared.device.Failed.{Failed}
use Rattle.device_core.specs.declared.device.Got.{Got}
use Rattle.device_core.specs.declared.device.Got.TheVariants as gots
use Rattle.device_core.specs.declared.device.TheConstants.{PIECE_BYTES}
use Rattle.crew_core.specs.Pieces.{IsPiece}

pub read_is_piece : (result : Result Got Failed) (old after : Option (List ℕ)) (buffer : List ℕ) → length buffer ≤ PIECE_BYTES → Reads result old after buffer → IfOk result IsPiece
read_is_piece (Ok (gots.Bytes n)) old after buffer room moved = omega (arith, room, moved.1)
read_is_piece (Ok gots.End) old after buffer room moved = tt
read_is_piece (Ok gots.Blocked) old after buffer room moved = tt
read_is_piece (Err e) old after buffer room moved = tt
