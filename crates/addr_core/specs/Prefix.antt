-- Which addresses a network has.
use Rattle.std.specs.Prelude.{ℕ, Bool, false, ◌-◌, ◌/◌, ◌^◌, ◌==◌}
use Rattle.addr_core.specs.declared.addr.Addr.{Addr}
use Rattle.addr_core.specs.declared.addr.Addr.TheVariants.{V4, V6}

-- what a contract sees of a network: an address, and how many of its first bits count
pub record Prefix : Type 0 where
  pub addr : Addr
  pub bits : ℕ

-- the bits of an address of the family
abbrev pub width_of : Addr → ℕ
width_of (V4 number) = 32
width_of (V6 number) = 128

-- the two addresses are of one family and agree in so many first bits
abbrev pub agree : ℕ → Addr → Addr → Bool
agree bits (V4 own) (V4 other) = own / 2 ^ (32 - bits) == other / 2 ^ (32 - bits)
agree bits (V4 own) (V6 other) = false
agree bits (V6 own) (V4 other) = false
agree bits (V6 own) (V6 other) = own / 2 ^ (128 - bits) == other / 2 ^ (128 - bits)

-- the network has the address
abbrev pub holds : Prefix → Addr → Bool
holds net addr = agree net.bits net.addr addr
