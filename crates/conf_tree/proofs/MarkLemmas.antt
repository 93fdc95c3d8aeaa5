-- The same claims have the same mark.
use Rattle.std.proofs.Common.{◌≡◌, ℕ, ◌==◌, ◌&&◌, ◌||◌, Bool, true, false, List, [], ◌∷◌, refl}
use native.Mathlib.Omega.{arith}
use Rattle.std.specs.Prelude.{map}
use Rattle.std.specs.List.{list_any}
use Rattle.addr_core.specs.Same.{same_addr}
use Rattle.conf_tree.specs.declared.claim.Claim.{Claim}
use Rattle.conf_tree.specs.declared.claim.Claim.TheVariants as claims
use Rattle.conf_tree.specs.Config.{same_claim}
use Rattle.conf_tree.specs.Marks.{mark_of}

and_false : (x : Bool) (y : Bool) → y ≡ false → (x && y) ≡ false
and_false true y is = is
and_false false y is = refl

or_false : (x : Bool) (y : Bool) → (x || y) ≡ false → (x ≡ false) × (y ≡ false)
or_false true y is = absurd cc
or_false false y is = (refl, is)

turned : (a b : ℕ) → (b == a) ≡ false → (a == b) ≡ false
turned a b is = grind (arith, is)

-- where the marks differ the claims do
differs : (a b : Claim) → (mark_of b == mark_of a) ≡ false → same_claim a b ≡ false
differs (claims.Frontend a) (claims.Frontend b) is = absurd cc
differs (claims.Frontend a) (claims.Backend b) is = refl
differs (claims.Frontend a) (claims.Endpoint b) is = refl
differs (claims.Frontend a) (claims.Table b) is = refl
differs (claims.Backend a) (claims.Frontend b) is = refl
differs (claims.Backend a) (claims.Backend b) is = absurd cc
differs (claims.Backend a) (claims.Endpoint b) is = refl
differs (claims.Backend a) (claims.Table b) is = refl
differs (claims.Endpoint a) (claims.Frontend b) is = refl
differs (claims.Endpoint a) (claims.Backend b) is = refl
differs (claims.Endpoint a) (claims.Endpoint b) is = and_false (same_addr a.addr b.addr) (a.port == b.port) (turned a.port b.port is)
differs (claims.Endpoint a) (claims.Table b) is = refl
differs (claims.Table a) (claims.Frontend b) is = refl
differs (claims.Table a) (claims.Backend b) is = refl
differs (claims.Table a) (claims.Endpoint b) is = refl
differs (claims.Table a) (claims.Table b) is = absurd cc

pub no_mark : (claim : Claim) (taken : List Claim) → list_any (λ mark. mark == mark_of claim) (map mark_of taken) ≡ false → list_any (same_claim claim) taken ≡ false
no_mark claim [] is = refl
no_mark claim (c ∷ rest) is =
    let parts = or_false (mark_of c == mark_of claim) (list_any (λ mark. mark == mark_of claim) (map mark_of rest)) is in
    rw (differs claim c parts.0) (no_mark claim rest parts.1)
