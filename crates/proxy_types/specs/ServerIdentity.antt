-- What the counts of a server go by.
use Rattle.std.specs.Prelude.{Bool, ◌&&◌}
use Rattle.std.specs.Str.{bytes_eq}
use Rattle.addr_core.specs.Same.{same_endpoint}
use Rattle.proxy_types.specs.declared.server.ServerIdentity.{ServerIdentity}

abbrev pub same_server : ServerIdentity → ServerIdentity → Bool
same_server a b = bytes_eq a.backend b.backend && bytes_eq a.name b.name && same_endpoint a.to b.to
