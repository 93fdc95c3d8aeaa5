-- How long a loop over a device goes on.
use Rattle.std.specs.Prelude.{◌≡◌, ◌⊎◌, ℕ, Result, Ok, Err}
use Rattle.device_core.specs.Device.{raised_by}
use Rattle.device_core.specs.declared.device.Got.{Got}
use Rattle.device_core.specs.declared.device.Got.TheVariants as got
use Rattle.device_core.specs.declared.device.Failed.{Failed}
use Rattle.device_core.specs.declared.patience.TheConstants.{MOST_STALLS}
use Rattle.device_core.specs.declared.patience.Moved.{Moved}
use Rattle.device_core.specs.declared.patience.Moved.TheVariants.{Bytes, End}

-- the same as the answer of one read
abbrev pub one_read : Result Moved Failed → Result Got Failed
one_read (Ok (Bytes n)) = Ok (got.Bytes n)
one_read (Ok End) = Ok got.End
one_read (Err e) = Err e

-- The last `MOST_STALLS` calls were blocked: all that were made, or those after a call that was not.
abbrev pub IsWornOut : ℕ → ℕ → Type 0
IsWornOut old new = (new ≡ raised_by MOST_STALLS old) ⊎ (new ≡ MOST_STALLS)

-- No call was made, or the last one was not blocked.
abbrev pub IsUnblocked : ℕ → ℕ → Type 0
IsUnblocked old new = (new ≡ old) ⊎ (new ≡ 0)
