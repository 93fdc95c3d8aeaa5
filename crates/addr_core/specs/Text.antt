-- Addresses, endpoints and networks as text.
use Rattle.std.specs.Prelude.{◌≡◌, ◌⊎◌, ℕ, Bool, ◌^◌, ◌<◌, ◌≤◌, ◌==◌, slice_index, List, [], ◌∷◌, ◌++◌, drop, codes, Result, Ok, Err, Option, Some, None, if◌then◌else◌}
use Rattle.std.specs.List.{list_any, slice_split}
use Rattle.std.specs.Option.{ok_or}
use Rattle.list_core.specs.Each.{◌>>=◌}
use Rattle.text_core.specs.Decimal.{decimal, decimal_of}
use Rattle.text_core.specs.Cut.{cut}
use Rattle.addr_core.specs.Dotted.{dotted_of, dotted_text, is_colon, is_dot, is_empty}
use Rattle.addr_core.specs.Groups.{groups_of, groups_text}
use Rattle.addr_core.specs.Prefix.{Prefix, width_of}
use Rattle.addr_core.specs.Six.{six_of, IsSixText}
use Rattle.addr_core.specs.declared.addr.Addr.{Addr}
use Rattle.addr_core.specs.declared.addr.Addr.TheVariants.{V4, V6}
use Rattle.addr_core.specs.declared.addr.Endpoint.{Endpoint}
use Rattle.addr_core.specs.declared.reading.AddrFault.{AddrFault}
use Rattle.addr_core.specs.declared.reading.AddrFault.TheVariants.{Empty, BadGroups, BadPrefix, BadPort}

-- ---- what is written

-- an address: IPv4 in dotted decimal, IPv6 in groups
abbrev pub text_of : Addr → List ℕ
text_of (V4 number) = dotted_text number
text_of (V6 number) = groups_text (groups_of number)

-- the most bytes that the text of an address of the family has
abbrev pub text_limit : Addr → ℕ
text_limit (V4 number) = 15
text_limit (V6 number) = 39

-- an address before a port: of IPv6 in brackets
abbrev pub host_text : Addr → List ℕ
host_text (V4 number) = text_of (V4 number)
host_text (V6 number) = codes "[" ++ text_of (V6 number) ++ codes "]"

-- an endpoint: the address, a colon and the port
abbrev pub endpoint_text : Endpoint → List ℕ
endpoint_text endpoint = host_text endpoint.addr ++ codes ":" ++ decimal endpoint.port

-- the number is one of the family
abbrev pub IsAddr : Addr → Type 0
IsAddr (V4 number) = number < 2 ^ 32
IsAddr (V6 number) = number < 2 ^ 128

abbrev pub IsEndpoint : Endpoint → Type 0
IsEndpoint endpoint = IsAddr endpoint.addr × (endpoint.port < 2 ^ 16)

abbrev pub IsNet : Prefix → Type 0
IsNet net = IsAddr net.addr × (net.bits ≤ width_of net.addr)

-- ---- the texts of a value

-- An IPv4 address has one text, an IPv6 address many.
abbrev pub IsText : List ℕ → Addr → Type 0
IsText text (V4 number) = text ≡ dotted_text number
IsText text (V6 number) = IsSixText text number

-- a text of an address before a port: 91 and 93 are the brackets
abbrev pub IsHost : List ℕ → Addr → Type 0
IsHost host (V4 number) = IsText host (V4 number)
IsHost host (V6 number) = (text : List ℕ) × (host ≡ 91 ∷ text ++ 93 ∷ []) × IsText text (V6 number)

-- an address, a colon and the port: 58 is the colon
abbrev pub IsEndpointText : List ℕ → Endpoint → Type 0
IsEndpointText text endpoint = (host : List ℕ) × (text ≡ host ++ 58 ∷ decimal endpoint.port) × IsHost host endpoint.addr

-- an address, a slash (47) and the bits; a network of one address may be written as that address
abbrev pub IsNetText : List ℕ → Prefix → Type 0
IsNetText text net =
    ((front : List ℕ) × (text ≡ front ++ 47 ∷ decimal net.bits) × IsText front net.addr) ⊎ (IsText text net.addr × (net.bits ≡ width_of net.addr))

-- ---- what is read

-- whether an address in brackets begins there
abbrev pub begins_bracket : List ℕ → Bool
begins_bracket text = slice_index text 0 == 91

-- the address of a text
abbrev pub addr_of : List ℕ → Result Addr AddrFault
addr_of text =
    if is_empty text then Err Empty
    else if list_any is_colon text then six_of text >>= (λ number. Ok (V6 number))
    else dotted_of (slice_split is_dot text) >>= (λ number. Ok (V4 number))

-- the address with the port of a text
abbrev pub with_port : List ℕ → Addr → Result Endpoint AddrFault
with_port text addr = ok_or (decimal_of text 65535) BadPort >>= λ port. Ok (record { addr = addr; port = port })

-- an IPv4 address is not in brackets
abbrev pub in_brackets : Addr → Result Addr AddrFault
in_brackets (V4 number) = Err BadGroups
in_brackets (V6 number) = Ok (V6 number)

-- an address in brackets, and a port
abbrev pub bracketed_of : Option (List ℕ × List ℕ) → Result Endpoint AddrFault
bracketed_of None = Err BadPort
bracketed_of (Some parts) = addr_of parts.0 >>= in_brackets >>= with_port parts.1

-- an address and a port
abbrev pub bare_of : Option (List ℕ × List ℕ) → Result Endpoint AddrFault
bare_of None = Err BadPort
bare_of (Some parts) = addr_of parts.0 >>= with_port parts.1

-- the endpoint of a text
abbrev pub endpoint_of : List ℕ → Result Endpoint AddrFault
endpoint_of text =
    if is_empty text then Err Empty
    else if begins_bracket text then bracketed_of (cut (codes "]:") (drop 1 text))
    else bare_of (cut (codes ":") text)

-- the address with the bits of a text
abbrev pub with_bits : List ℕ → Addr → Result Prefix AddrFault
with_bits text addr = ok_or (decimal_of text (width_of addr)) BadPrefix >>= λ bits. Ok (record { addr = addr; bits = bits })

abbrev pub one_address : Addr → Result Prefix AddrFault
one_address addr = Ok (record { addr = addr; bits = width_of addr })

-- the network of the texts before and after a slash, if there is one
abbrev pub net_in : List ℕ → Option (List ℕ × List ℕ) → Result Prefix AddrFault
net_in text None = addr_of text >>= one_address
net_in text (Some parts) = addr_of parts.0 >>= with_bits parts.1

-- the network of a text
abbrev pub net_of : List ℕ → Result Prefix AddrFault
net_of text = net_in text (cut (codes "/") text)
