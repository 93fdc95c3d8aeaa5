-- The first 16 bytes of a header of version 2 (proxy-protocol.txt, section 2.2).
use Rattle.std.specs.Prelude.{ℕ, Bool, not, ◌+◌, ◌*◌, ◌/◌, ◌%◌, ◌&&◌, ◌||◌, ◌==◌, nat_eq, nat_lt, slice_index, List, [], ◌∷◌, Option, Some, None, Result, Ok, Err, if◌then◌else◌}
use Rattle.std.specs.List.{starts_with}
use Rattle.pp_v2.specs.declared.head.Family.{Family}
use Rattle.pp_v2.specs.declared.head.Family.TheVariants.{V4, V6}
use Rattle.pp_v2.specs.declared.head.Head.{Head}
use Rattle.pp_v2.specs.declared.fault.V2Fault.{V2Fault}
use Rattle.pp_v2.specs.declared.fault.V2Fault.TheVariants.{NotProxy, BadVersion, BadCommand, BadFamily, ShortBlock}

-- bytes 1 to 12: CR LF CR LF, zero, CR LF, QUIT and LF
abbrev pub signature : List ℕ
signature = 0x0D ∷ 0x0A ∷ 0x0D ∷ 0x0A ∷ 0x00 ∷ 0x0D ∷ 0x0A ∷ 0x51 ∷ 0x55 ∷ 0x49 ∷ 0x54 ∷ 0x0A ∷ []

abbrev pub signature_fault : List ℕ → Option V2Fault
signature_fault bytes = if starts_with nat_eq bytes signature then None else Some NotProxy

-- byte 13: the high half is the version, 2; the low half the command, 0 for LOCAL and 1 for PROXY
abbrev pub command_fault : ℕ → Option V2Fault
command_fault command =
    if not (command / 16 == 2) then Some BadVersion
    else if nat_lt 1 (command % 16) then Some BadCommand
    else None

abbrev pub is_proxy : ℕ → Bool
is_proxy command = command % 16 == 1

-- byte 14: the high half is the family, 0 to 3; the low half the transport, 0 to 2
abbrev pub family_fault : ℕ → ℕ → Option V2Fault
family_fault command family = if is_proxy command && (nat_lt 3 (family / 16) || nat_lt 2 (family % 16)) then Some BadFamily else None

-- TCP over IPv4, and TCP over IPv6
abbrev pub family_byte : Family → ℕ
family_byte V4 = 0x11
family_byte V6 = 0x21

abbrev pub family_of : ℕ → Option Family
family_of byte = if byte == family_byte V4 then Some V4 else if byte == family_byte V6 then Some V6 else None

-- the family of the pair that the two bytes announce
abbrev pub declared : ℕ → ℕ → Option Family
declared command family = if is_proxy command then family_of family else None

-- the bytes of two addresses and two ports
abbrev pub pair_length : Family → ℕ
pair_length V4 = 12
pair_length V6 = 36

-- a block that is too short for its pair
abbrev pub length_fault : Option Family → ℕ → Option V2Fault
length_fault None len = None
length_fault (Some family) len = if nat_lt len (pair_length family) then Some ShortBlock else None

abbrev pub unless : Option V2Fault → Result Head V2Fault → Result Head V2Fault
unless (Some fault) head = Err fault
unless None head = head

-- bytes 15 and 16: the length of the block, the most significant byte first
abbrev pub block_length : List ℕ → ℕ
block_length bytes = slice_index bytes 14 * 256 + slice_index bytes 15

abbrev pub declared_in : List ℕ → Option Family
declared_in bytes = declared (slice_index bytes 12) (slice_index bytes 13)

-- what 16 bytes say, or the first fault
abbrev pub head_of : List ℕ → Result Head V2Fault
head_of bytes =
    unless (signature_fault bytes)
    (unless (command_fault (slice_index bytes 12))
    (unless (family_fault (slice_index bytes 12) (slice_index bytes 13))
    (unless (length_fault (declared_in bytes) (block_length bytes))
    (Ok (record { declares = declared_in bytes; len = block_length bytes })))))
