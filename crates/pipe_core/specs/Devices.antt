-- What devices do in a run, and when they have given up.
use Rattle.std.specs.Prelude.{◌≡◌, ◌⊎◌, ◌<◌, ◌≤◌, ℕ, List, length, take, Option, Result, Ok, Err}
use Rattle.std.specs.Io.KnownBytes.{Consumes, IsAtEnd, Keeps}
use Rattle.device_core.specs.Device.{raised, raised_by}
use Rattle.device_core.specs.Patience.{IsWornOut}
use Rattle.device_core.specs.declared.patience.TheConstants.{MOST_READS}
use Rattle.device_core.specs.declared.patience.Moved.{Moved}
use Rattle.device_core.specs.declared.patience.Moved.TheVariants.{Bytes, End}
use Rattle.pipe_core.specs.declared.end.PipeFault.{PipeFault}
use Rattle.pipe_core.specs.declared.end.PipeFault.TheVariants.{Read, Write}

-- what was read is at the front of the buffer
abbrev pub Gives : Result Moved PipeFault → Option (List ℕ) → Option (List ℕ) → List ℕ → Type 0
Gives (Ok (Bytes n)) old new buffer = (0 < n) × (n ≤ length buffer) × Consumes old new (take n buffer)
Gives (Ok End) old new buffer = IsAtEnd old × Keeps old new
Gives (Err fault) old new buffer = Keeps old new

-- no more bytes than that
abbrev pub GivesAtMost : ℕ → Result Moved PipeFault → Type 0
GivesAtMost most (Ok (Bytes n)) = n ≤ most
GivesAtMost most (Ok End) = Unit {0}
GivesAtMost most (Err fault) = Unit {0}

-- A writer gave up: it failed once in the call, or it did not and its patience ran out.
abbrev pub GaveUp : ℕ → ℕ → ℕ → ℕ → Type 0
GaveUp before failures blocked stalls = (failures ≡ raised before) ⊎ ((failures ≡ before) × IsWornOut blocked stalls)

-- A reader gave up: it failed once in the call, or it did not and its patience ran out, or no read is left.
abbrev pub HasGivenUp : ℕ → ℕ → ℕ → ℕ → ℕ → Type 0
HasGivenUp before failures blocked stalls reads = (failures ≡ raised before) ⊎ ((failures ≡ before) × (IsWornOut blocked stalls ⊎ (reads ≡ 0)))

-- A reader gave up: it failed once in the call, or it did not and its patience ran out, or it was asked as often as it may be.
abbrev pub IsSpent : ℕ → ℕ → ℕ → ℕ → ℕ → ℕ → Type 0
IsSpent before failures blocked stalls called calls =
    (failures ≡ raised before) ⊎ ((failures ≡ before) × (IsWornOut blocked stalls ⊎ (calls ≡ raised_by MOST_READS called)))

-- A call that cannot read or write ends so because that device gave up.
pub record EndsByDevice {T I O : Type 0} (result : Result T PipeFault) (calls failures stalls : I → ℕ) (reader read : I) (write_failures write_stalls : O → ℕ) (writer written : O) : Type 0 where
  pub spent : result ≡ Err Read → IsSpent (failures reader) (failures read) (stalls reader) (stalls read) (calls reader) (calls read)
  pub gave_up : result ≡ Err Write → GaveUp (write_failures writer) (write_failures written) (write_stalls writer) (write_stalls written)
