-- An index of networks.
use Rattle.std.specs.Prelude.{◌≡◌, ℕ, Bool, true, false, List}
use Rattle.std.specs.List.{list_any}
use Rattle.addr_core.specs.declared.addr.Addr.{Addr}
use Rattle.addr_core.specs.declared.addr.Addr.TheVariants.{V4, V6}
use Rattle.addr_core.specs.Prefix.{holds, Prefix}
use Rattle.net_index.specs.declared.range.Range.{Range}
use Rattle.net_index.specs.Ranges.{covers}

-- the address of a family that is that number
abbrev pub numbered : Bool → ℕ → Addr
numbered false n = V4 n
numbered true n = V6 n

-- the address is of a family
abbrev pub in_family : Bool → Addr → Bool
in_family false (V4 number) = true
in_family false (V6 number) = false
in_family true (V4 number) = false
in_family true (V6 number) = true

-- the network is of a family
abbrev pub is_of : Bool → Prefix → Bool
is_of six net = in_family six net.addr

-- the network has the address
abbrev pub has_addr : Addr → Prefix → Bool
has_addr addr net = holds net addr

-- the ranges have the addresses of a family that some network has
abbrev pub HasFamily : Bool → List Prefix → List Range → Type 0
HasFamily six nets ranges = (n : ℕ) → covers ranges n ≡ list_any (has_addr (numbered six n)) nets

-- The ranges of each family have the addresses of it that some network has.
pub record IsIndex (nets : List Prefix) (four six : List Range) : Type 0 where
  pub of_four : (n : ℕ) → covers four n ≡ list_any (has_addr (numbered false n)) nets
  pub of_six : (n : ℕ) → covers six n ≡ list_any (has_addr (numbered true n)) nets
