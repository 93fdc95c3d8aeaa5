-- The pair that a block begins with, and the header of a pair (proxy-protocol.txt, section 2.2).
use Rattle.std.specs.Prelude.{ℕ, ◌+◌, ◌-◌, slice_index, List, [], ◌∷◌, ◌++◌, Some}
use Rattle.std.specs.Int.{byte_worth, sum_through, to_be_bytes, w16, w32, w128}
use Rattle.addr_core.specs.declared.addr.Addr.{Addr}
use Rattle.addr_core.specs.declared.addr.Addr.TheVariants as addresses
use Rattle.addr_core.specs.PairValue.{PairValue}
use Rattle.pp_v2.specs.declared.head.Family.{Family}
use Rattle.pp_v2.specs.declared.head.Head.{Head}
use Rattle.pp_v2.specs.declared.head.Family.TheVariants.{V4, V6}
use Rattle.pp_v2.specs.Head.{family_byte, pair_length, signature}

-- the number of so many bytes from a place on, the most significant byte first
abbrev pub number_at : ℕ → ℕ → List ℕ → ℕ
number_at place width bytes = sum_through (λ i. byte_worth (width - 1 - i) (slice_index bytes (place + i))) (width - 1)

abbrev pub ipv4_at : ℕ → List ℕ → Addr
ipv4_at place block = addresses.V4 (number_at place 4 block)

abbrev pub ipv6_at : ℕ → List ℕ → Addr
ipv6_at place block = addresses.V6 (number_at place 16 block)

abbrev pub port_at : ℕ → List ℕ → ℕ
port_at place block = number_at place 2 block

-- source address, destination address, source port, destination port
abbrev pub pair_in : Family → List ℕ → PairValue
pair_in V4 block = record {
  source = record { addr = ipv4_at 0 block; port = port_at 8 block };
  destination = record { addr = ipv4_at 4 block; port = port_at 10 block };
}
pair_in V6 block = record {
  source = record { addr = ipv6_at 0 block; port = port_at 32 block };
  destination = record { addr = ipv6_at 16 block; port = port_at 34 block };
}

-- ---- what is written

-- the addresses of both ends, which are of one family
abbrev pub addresses_of : Addr → Addr → List ℕ
addresses_of (addresses.V4 source) (addresses.V4 destination) = to_be_bytes w32 source ++ to_be_bytes w32 destination
addresses_of (addresses.V6 source) (addresses.V6 destination) = to_be_bytes w128 source ++ to_be_bytes w128 destination
addresses_of (addresses.V4 source) (addresses.V6 destination) = []
addresses_of (addresses.V6 source) (addresses.V4 destination) = []

abbrev pub family_in : Addr → Family
family_in (addresses.V4 number) = V4
family_in (addresses.V6 number) = V6

-- the header of a pair: version 2, PROXY, and a block with nothing else
abbrev pub header_of : PairValue → List ℕ
header_of pair =
    signature ++ 0x21 ∷ family_byte (family_in pair.source.addr) ∷ to_be_bytes w16 (pair_length (family_in pair.source.addr))
    ++ addresses_of pair.source.addr pair.destination.addr ++ to_be_bytes w16 pair.source.port ++ to_be_bytes w16 pair.destination.port

-- its first 16 bytes
abbrev pub head_for : PairValue → Head
head_for pair = record { declares = Some (family_in pair.source.addr); len = pair_length (family_in pair.source.addr) }
