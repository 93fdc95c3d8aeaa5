-- What is written of a pair is read again.
use Rattle.std.proofs.Common.{◌≡◌, ℕ, ◌<◌, ◌^◌, List, drop, refl, ap, ◌∙◌, true}
use Rattle.std.proofs.lemmas.Nat.{from_be_bytes-to_be_bytes_2, from_be_bytes-to_be_bytes_4}
use Rattle.addr_core.specs.declared.addr.Addr.{Addr}
use Rattle.addr_core.specs.declared.addr.Addr.TheVariants as addresses
use Rattle.addr_core.specs.PairValue.{PairValue}
use Rattle.addr_core.specs.Family.{same_family}
use Rattle.addr_core.specs.Text.{IsAddr, IsEndpoint}
use Rattle.pp_v2.specs.Block.{family_in, header_of, pair_in}
use Rattle.pp_v2.proofs.Bytes.{from_be_bytes-to_be_bytes_16}

read_again : (from to : Addr) (p q : ℕ) → IsAddr from → IsAddr to → p < 2 ^ 16 → q < 2 ^ 16 → same_family from to ≡ true
    → pair_in (family_in from) (drop 16 (header_of (record { source = record { addr = from; port = p }; destination = record { addr = to; port = q } })))
    ≡ record { source = record { addr = from; port = p }; destination = record { addr = to; port = q } }
read_again (addresses.V4 a) (addresses.V4 b) p q x y z w same =
    rw (from_be_bytes-to_be_bytes_4 a x, from_be_bytes-to_be_bytes_4 b y, from_be_bytes-to_be_bytes_2 p z, from_be_bytes-to_be_bytes_2 q w) refl
read_again (addresses.V6 a) (addresses.V6 b) p q x y z w same =
    rw (from_be_bytes-to_be_bytes_16 a x, from_be_bytes-to_be_bytes_16 b y, from_be_bytes-to_be_bytes_2 p z, from_be_bytes-to_be_bytes_2 q w) refl
read_again (addresses.V4 a) (addresses.V6 b) p q x y z w same = absurd cc
read_again (addresses.V6 a) (addresses.V4 b) p q x y z w same = absurd cc

pub pair_in-header_of : (pair : PairValue) (bytes : List ℕ) → bytes ≡ header_of pair → IsEndpoint pair.source → IsEndpoint pair.destination
    → same_family pair.source.addr pair.destination.addr ≡ true → pair_in (family_in pair.source.addr) (drop 16 bytes) ≡ pair
pair_in-header_of pair bytes is source destination same =
    ap (λ b. pair_in (family_in pair.source.addr) (drop 16 b)) is
    ∙ read_again pair.source.addr pair.destination.addr pair.source.port pair.destination.port source.0 destination.0 source.1 destination.1 same
