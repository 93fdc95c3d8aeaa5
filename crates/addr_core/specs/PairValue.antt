-- The source and the destination of a connection.
use Rattle.std.specs.Prelude.{Option, Some, None, if◌then◌else◌}
use Rattle.addr_core.specs.declared.addr.Endpoint.{Endpoint}
use Rattle.addr_core.specs.Family.{same_family}

-- what a contract sees of a pair
pub record PairValue : Type 0 where
  pub source : Endpoint
  pub destination : Endpoint

-- the pair of two endpoints of one family
abbrev pub pair_of : Endpoint → Endpoint → Option PairValue
pair_of source destination =
    if same_family source.addr destination.addr then Some (record { source = source; destination = destination }) else None
