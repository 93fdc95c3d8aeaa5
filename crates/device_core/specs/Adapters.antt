-- What the readers and writers of std are as devices.
use Rattle.std.specs.Prelude.{◌≡◌, ◌⊎◌, ℕ, ◌==◌, Result, Ok, Err, if◌then◌else◌}
use Rattle.std.specs.IoError.{error_kind}
use Rattle.std.specs.declared.io.Error.{Error}
use Rattle.std.specs.declared.io.ErrorKind.TheVariants.{Interrupted, WouldBlock}
use Rattle.device_core.specs.declared.device.Got.{Got}
use Rattle.device_core.specs.declared.device.Got.TheVariants as got
use Rattle.device_core.specs.declared.device.Put.{Put}
use Rattle.device_core.specs.declared.device.Put.TheVariants as put
use Rattle.device_core.specs.declared.device.Failed.{Failed}

-- a reader or writer of std, with the counts of its calls
pub record Counted (D : Type 0) : Type 0 where
  pub device : D
  pub failures : ℕ
  pub calls : ℕ
  pub stalls : ℕ

-- no call was made
abbrev pub fresh : {D : Type 0} → D → Counted D
fresh device = record { device = device; failures = 0; calls = 0; stalls = 0 }

-- an interrupted call, or one that would block
abbrev pub IsPassing : Error → Type 0
IsPassing e = (error_kind e ≡ Interrupted) ⊎ (error_kind e ≡ WouldBlock)

abbrev pub IsReadAnswer : Result ℕ Error → Result Got Failed → Type 0
IsReadAnswer (Ok n) answer = answer ≡ (if n == 0 then Ok got.End else Ok (got.Bytes n))
IsReadAnswer (Err e) (Ok answer) = (answer ≡ got.Blocked) × IsPassing e
IsReadAnswer (Err e) (Err f) = ¬ IsPassing e

abbrev pub IsWriteAnswer : Result ℕ Error → Result Put Failed → Type 0
IsWriteAnswer (Ok n) answer = answer ≡ (if n == 0 then Err (record {}) else Ok (put.Bytes n))
IsWriteAnswer (Err e) (Ok answer) = (answer ≡ put.Blocked) × IsPassing e
IsWriteAnswer (Err e) (Err f) = ¬ IsPassing e
