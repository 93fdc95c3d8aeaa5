-- The places of a worker's connections.
use Rattle.std.specs.Prelude.{◌≡◌, ℕ, IsSomeAnd}
use Rattle.slab.specs.Slab.{Slab, get}
use Rattle.worker_conns.specs.declared.table.Place.{Place}

-- the connection of that key is the one of that serial
abbrev pub HasSerial : {K : Type 0} → Slab (Place K) → ℕ → ℕ → Type 0
HasSerial places key serial = IsSomeAnd (get places key) (λ place. place.serial ≡ serial)
