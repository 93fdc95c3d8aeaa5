-- A header of version 1: one line (proxy-protocol.txt, section 2.1).
use Rattle.std.specs.Prelude.{◌≡◌, ℕ, Bool, true, false, ◌-◌, ◌<◌, ◌≤◌, ◌&&◌, ◌||◌, ◌==◌, slice_index, List, [], ◌∷◌, ◌++◌, length, drop, take, codes, Result, Ok, Err, Option, Some, None, option_and_then, if◌then◌else◌}
use Rattle.std.specs.List.{join_with_byte, slice_split}
use Rattle.std.specs.Option.{ok_or}
use Rattle.std.specs.Str.{bytes_eq}
use Rattle.list_core.specs.Each.{◌>>=◌}
use Rattle.text_core.specs.Decimal.{decimal, decimal_of}
use Rattle.addr_core.specs.Dotted.{is_empty}
use Rattle.addr_core.specs.PairValue.{PairValue}
use Rattle.addr_core.specs.Family.{same_family}
use Rattle.addr_core.specs.Text.{addr_of, text_of, IsEndpoint}
use Rattle.addr_core.specs.declared.addr.Addr.{Addr}
use Rattle.addr_core.specs.declared.addr.Addr.TheVariants.{V4, V6}
use Rattle.addr_core.specs.declared.reading.AddrFault.{AddrFault}
use Rattle.pp_v1.specs.declared.TheConstants.{LINE_LIMIT}
use Rattle.pp_v1.specs.declared.meaning.Meaning.{Meaning}
use Rattle.pp_v1.specs.declared.meaning.Meaning.TheVariants.{Real, Declared}
use Rattle.pp_v1.specs.declared.reading.Protocol.{Protocol}
use Rattle.pp_v1.specs.declared.reading.Protocol.TheVariants.{Tcp4, Tcp6}
use Rattle.pp_v1.specs.declared.reading.V1Fault.{V1Fault}
use Rattle.pp_v1.specs.declared.reading.V1Fault.TheVariants.{BadLine, BadAddress, BadPort}

-- ---- which bytes are a line

-- the last two bytes are 13 and 10, CR LF
abbrev pub ends_line : List ℕ → Bool
ends_line bytes = (slice_index bytes (length bytes - 2) == 13) && (slice_index bytes (length bytes - 1) == 10)

-- one line: it begins with PROXY and a space, ends at its first CR LF, and is not too long
pub record IsLine (bytes : List ℕ) : Type 0 where
  pub begins : take 6 bytes ≡ codes "PROXY "
  pub ends : ends_line bytes ≡ true
  pub first : (k : ℕ) → 6 < k → k < length bytes → ends_line (take k bytes) ≡ false
  pub short : length bytes ≤ LINE_LIMIT

-- ---- what is read

abbrev pub is_blank : ℕ → Bool
is_blank byte = byte == 32

-- an address of the family that the protocol names
abbrev pub of_family : Protocol → Result Addr AddrFault → Result Addr V1Fault
of_family Tcp4 (Ok (V4 number)) = Ok (V4 number)
of_family Tcp4 (Ok (V6 number)) = Err BadAddress
of_family Tcp4 (Err fault) = Err BadAddress
of_family Tcp6 (Ok (V4 number)) = Err BadAddress
of_family Tcp6 (Ok (V6 number)) = Ok (V6 number)
of_family Tcp6 (Err fault) = Err BadAddress

abbrev pub address_of : Protocol → List ℕ → Result Addr V1Fault
address_of protocol field = of_family protocol (addr_of field)

abbrev pub port_of : List ℕ → Result ℕ V1Fault
port_of field = ok_or (decimal_of field 65535) BadPort

-- both addresses are judged before the ports
abbrev pub declared : Protocol → List ℕ → List ℕ → List ℕ → List ℕ → Result Meaning V1Fault
declared protocol source destination source_port destination_port = do
  from ← address_of protocol source
  to ← address_of protocol destination
  first ← port_of source_port
  second ← port_of destination_port
  Ok (Declared (record { source = record { addr = from; port = first }; destination = record { addr = to; port = second } }))

-- four fields, none of them empty: both addresses, then both ports
abbrev pub fields_of : Protocol → List (List ℕ) → Result Meaning V1Fault
fields_of protocol (a ∷ b ∷ c ∷ d ∷ []) =
    if is_empty a || is_empty b || is_empty c || is_empty d then Err BadLine else declared protocol a b c d
fields_of protocol fields = Err BadLine

-- the protocol comes first. After UNKNOWN anything may follow
abbrev pub says : List (List ℕ) → Result Meaning V1Fault
says [] = Err BadLine
says (word ∷ fields) =
    if bytes_eq word (codes "UNKNOWN") then Ok Real
    else if bytes_eq word (codes "TCP4") then fields_of Tcp4 fields
    else if bytes_eq word (codes "TCP6") then fields_of Tcp6 fields
    else Err BadLine

-- what the text between `PROXY ` and the end of the line says: its words are separated by one space each
abbrev pub text_meaning : List ℕ → Result Meaning V1Fault
text_meaning text = says (slice_split is_blank text)

-- what follows the name of the protocol and one space
abbrev pub after_name : List ℕ → Option (List ℕ)
after_name line = if bytes_eq (take 6 line) (codes "PROXY ") then Some (drop 6 line) else None

-- the text before the end of the line: 13 and 10 are CR and LF
abbrev pub before_end : List ℕ → Option (List ℕ)
before_end text = if bytes_eq (drop (length text - 2) text) (13 ∷ 10 ∷ []) then Some (take (length text - 2) text) else None

abbrev pub between : List ℕ → Option (List ℕ)
between line = option_and_then before_end (after_name line)

abbrev pub meaning_in : Option (List ℕ) → Result Meaning V1Fault
meaning_in None = Err BadLine
meaning_in (Some text) = text_meaning text

-- what a line says
abbrev pub line_meaning : List ℕ → Result Meaning V1Fault
line_meaning line = meaning_in (between line)

-- ---- what is written

abbrev pub protocol_text : Addr → List ℕ
protocol_text (V4 number) = codes "TCP4"
protocol_text (V6 number) = codes "TCP6"

abbrev pub line_words : PairValue → List (List ℕ)
line_words pair =
    protocol_text pair.source.addr ∷ text_of pair.source.addr ∷ text_of pair.destination.addr ∷ decimal pair.source.port ∷ decimal pair.destination.port ∷ []

-- the line that declares a pair
abbrev pub line_of : PairValue → List ℕ
line_of pair = codes "PROXY " ++ (join_with_byte 32 (line_words pair) ++ 13 ∷ 10 ∷ [])

-- what a pair is: both endpoints are of one family, and their numbers in range
abbrev pub IsPair : PairValue → Type 0
IsPair pair = IsEndpoint pair.source × IsEndpoint pair.destination × (same_family pair.source.addr pair.destination.addr ≡ true)

-- the most bytes that the line of a pair of the family has
abbrev pub line_limit : Addr → ℕ
line_limit (V4 number) = 56
line_limit (V6 number) = 104
