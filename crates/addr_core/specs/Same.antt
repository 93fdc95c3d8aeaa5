-- Which addresses and endpoints are the same.
use Rattle.std.specs.Prelude.{Bool, false, ◌&&◌, ◌==◌}
use Rattle.addr_core.specs.declared.addr.Addr.{Addr}
use Rattle.addr_core.specs.declared.addr.Addr.TheVariants.{V4, V6}
use Rattle.addr_core.specs.declared.addr.Endpoint.{Endpoint}

abbrev pub same_addr : Addr → Addr → Bool
same_addr (V4 a) (V4 b) = a == b
same_addr (V4 a) (V6 b) = false
same_addr (V6 a) (V4 b) = false
same_addr (V6 a) (V6 b) = a == b

abbrev pub same_endpoint : Endpoint → Endpoint → Bool
same_endpoint a b = same_addr a.addr b.addr && (a.port == b.port)
