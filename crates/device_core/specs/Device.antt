-- What one call of a device did.
use Rattle.std.specs.Prelude.{ℕ, ◌+◌, ◌-◌, ◌<◌, ◌≤◌, ◌^◌, min, List, length, take, Option, Result, Ok, Err}
use Rattle.std.specs.Io.KnownBytes.{Keeps, Consumes, Appends, IsAtEnd}
use Rattle.device_core.specs.declared.device.Got.{Got}
use Rattle.device_core.specs.declared.device.Got.TheVariants as got
use Rattle.device_core.specs.declared.device.Put.{Put}
use Rattle.device_core.specs.declared.device.Put.TheVariants as put
use Rattle.device_core.specs.declared.device.Failed.{Failed}

-- so many more, as far as the greatest number of 64 bits
abbrev pub raised_by : ℕ → ℕ → ℕ
raised_by more count = count + min more (2 ^ 64 - 1 - count)

abbrev pub raised : ℕ → ℕ
raised count = raised_by 1 count

-- What a read did to the bytes that were left, where the device reports them: it gave the first of them, or none.
abbrev pub Reads : Result Got Failed → Option (List ℕ) → Option (List ℕ) → List ℕ → Type 0
Reads (Ok (got.Bytes n)) old new buffer = (0 < n) × (n ≤ length buffer) × Consumes old new (take n buffer)
Reads (Ok got.End) old new buffer = IsAtEnd old × Keeps old new
Reads (Ok got.Blocked) old new buffer = Keeps old new
Reads (Err e) old new buffer = Keeps old new

-- What a write did to the bytes that are held, where the device reports them: it added the first of those handed in, or none.
abbrev pub Writes : Result Put Failed → Option (List ℕ) → Option (List ℕ) → List ℕ → Type 0
Writes (Ok (put.Bytes n)) old new bytes = (0 < n) × (n ≤ length bytes) × Appends old new (take n bytes)
Writes (Ok put.Blocked) old new bytes = Keeps old new
Writes (Err e) old new bytes = Keeps old new

-- the failures after a call
abbrev pub failures_after : {A : Type 0} → Result A Failed → ℕ → ℕ
failures_after (Ok answer) count = count
failures_after (Err e) count = raised count

-- the blocked calls in a row after a read
abbrev pub read_stalls : Result Got Failed → ℕ → ℕ
read_stalls (Ok (got.Bytes n)) count = 0
read_stalls (Ok got.End) count = 0
read_stalls (Ok got.Blocked) count = raised count
read_stalls (Err e) count = 0

-- the blocked calls in a row after a write
abbrev pub write_stalls : Result Put Failed → ℕ → ℕ
write_stalls (Ok (put.Bytes n)) count = 0
write_stalls (Ok put.Blocked) count = raised count
write_stalls (Err e) count = 0
