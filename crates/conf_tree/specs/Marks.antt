-- A number that the same claims share.
use Rattle.std.specs.Prelude.{ℕ}
use Rattle.conf_tree.specs.declared.claim.Claim.{Claim}
use Rattle.conf_tree.specs.declared.claim.Claim.TheVariants as claims

-- the port of an endpoint
abbrev pub mark_of : Claim → ℕ
mark_of (claims.Endpoint at) = at.port
mark_of claim = 0
