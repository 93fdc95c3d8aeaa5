-- Addresses in two halves, as what keeps many of them has them.
use Rattle.std.specs.Prelude.{ℕ, Bool, true, false, ◌+◌, ◌*◌, ◌^◌, ◌<◌}
use Rattle.addr_core.specs.declared.addr.Addr.{Addr}
use Rattle.addr_core.specs.declared.addr.Addr.TheVariants.{V4, V6}

-- the number of two halves of 64 bits
abbrev pub joined : ℕ → ℕ → ℕ
joined high low = high * 2 ^ 64 + low

-- the address of two halves, of IPv6 or not
abbrev pub addr_of : Bool → ℕ → ℕ → Addr
addr_of true high low = V6 (joined high low)
addr_of false high low = V4 low

-- the lower half of an address of IPv4 has 32 bits
abbrev pub IsPacked : Bool → ℕ → Type 0
IsPacked true low = Unit {0}
IsPacked false low = low < 2 ^ 32
