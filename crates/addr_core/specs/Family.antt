-- The families of addresses.
use Rattle.std.specs.Prelude.{Bool, true, false}
use Rattle.addr_core.specs.declared.addr.Addr.{Addr}
use Rattle.addr_core.specs.declared.addr.Addr.TheVariants.{V4, V6}

-- both addresses are of one family
abbrev pub same_family : Addr → Addr → Bool
same_family (V4 a) (V4 b) = true
same_family (V4 a) (V6 b) = false
same_family (V6 a) (V4 b) = false
same_family (V6 a) (V6 b) = true
