-- What the first bytes of a connection say as a header (proxy-protocol.txt, sections 2.1 and 2.2).
use Rattle.std.specs.Prelude.{ℕ, Bool, not, ◌+◌, ◌-◌, ◌==◌, nat_le, slice_index, List, [], ◌∷◌, ◌++◌, length, take, drop, codes, Option, Some, None, Result, Ok, Err, if◌then◌else◌}
use Rattle.std.specs.Option.{option_map}
use Rattle.pp_v1.specs.declared.meaning.Meaning.{Meaning}
use Rattle.pp_v1.specs.declared.meaning.Meaning.TheVariants.{Real, Declared}
use Rattle.pp_v1.specs.declared.reading.V1Fault.{V1Fault}
use Rattle.pp_v1.specs.declared.TheConstants.{LINE_LIMIT}
use Rattle.pp_v1.specs.Line.{ends_line, line_meaning}
use Rattle.pp_v2.specs.declared.head.Family.{Family}
use Rattle.pp_v2.specs.declared.head.Head.{Head}
use Rattle.pp_v2.specs.declared.fault.V2Fault.{V2Fault}
use Rattle.pp_v2.specs.declared.fault.V2Fault.TheVariants as heads
use Rattle.pp_v2.specs.Head.{command_fault, family_fault, head_of, pair_length, signature}
use Rattle.pp_v2.specs.Block.{pair_in}
use Rattle.pp_any.specs.declared.fault.HeaderFault.{HeaderFault}
use Rattle.pp_any.specs.declared.fault.HeaderFault.TheVariants.{NotProxy, TooLong}
use Rattle.pp_any.specs.Faults.{of_line, of_head}

-- so many bytes are a header with that meaning; or so many have a fault; or neither yet
pub data Status : Type 0 where
  Whole : ℕ → Meaning → Status
  Fault : HeaderFault → ℕ → Status
  Wait : Status

-- Each of the following says what the last of some bytes decides, if none before it decided: that they are a
-- header, or have a fault.

-- a header that begins with P, 80, is of version 1, and any other of version 2
abbrev pub is_line : List ℕ → Bool
is_line bytes = slice_index bytes 0 == 80

-- the last byte is not that of the text at its place
abbrev pub last_differs : List ℕ → List ℕ → Bool
last_differs text bytes = not (slice_index bytes (length bytes - 1) == slice_index text (length bytes - 1))

abbrev pub fault_in_line : Result Meaning V1Fault → Result Meaning HeaderFault
fault_in_line (Ok meaning) = Ok meaning
fault_in_line (Err fault) = Err (of_line fault)

unfoldable pub meaning_of_line : List ℕ → Result Meaning HeaderFault
meaning_of_line line = fault_in_line (line_meaning line)

-- version 1: bytes 1 to 6 are PROXY and a space; CR LF ends the line, at the last byte of the longest line at the latest
abbrev pub line_decision : List ℕ → Option (Result Meaning HeaderFault)
line_decision bytes =
    if nat_le (length bytes) 6 then (if last_differs (codes "PROXY ") bytes then Some (Err NotProxy) else None)
    else if ends_line bytes then Some (meaning_of_line bytes)
    else if nat_le LINE_LIMIT (length bytes) then Some (Err TooLong)
    else None

-- version 2, before byte 16: bytes 1 to 12 are the signature, 13 the command, 14 the family
abbrev pub early_fault : List ℕ → Option V2Fault
early_fault bytes =
    if nat_le (length bytes) 12 then (if last_differs signature bytes then Some heads.NotProxy else None)
    else if length bytes == 13 then command_fault (slice_index bytes 12)
    else if length bytes == 14 then family_fault (slice_index bytes 12) (slice_index bytes 13)
    else None

-- the block begins with the pair
abbrev pub meaning_in : Option Family → List ℕ → Meaning
meaning_in None block = Real
meaning_in (Some family) block = Declared (pair_in family (take (pair_length family) block))

-- version 2, from byte 16 on: the header has 16 bytes and its block
abbrev pub block_decision : List ℕ → Result Head V2Fault → Option (Result Meaning HeaderFault)
block_decision bytes (Err fault) = Some (Err (of_head fault))
block_decision bytes (Ok head) = if length bytes == 16 + head.len then Some (Ok (meaning_in head.declares (drop 16 bytes))) else None

abbrev pub head_decision : List ℕ → Option (Result Meaning HeaderFault)
head_decision bytes =
    if nat_le 16 (length bytes) then block_decision bytes (head_of (take 16 bytes))
    else option_map (λ fault. Err (of_head fault)) (early_fault bytes)

abbrev pub decision : List ℕ → Option (Result Meaning HeaderFault)
decision bytes = if is_line bytes then line_decision bytes else head_decision bytes

-- what so many bytes decide, or else what later ones do
abbrev pub decided_at : ℕ → Option (Result Meaning HeaderFault) → Status → Status
decided_at count (Some (Ok meaning)) later = Whole count meaning
decided_at count (Some (Err fault)) later = Fault fault count
decided_at count None later = later

abbrev pub status_from : (List ℕ → Option (Result Meaning HeaderFault)) → List ℕ → List ℕ → Status
status_from says before [] = Wait
status_from says before (byte ∷ more) =
    decided_at (length before + 1) (says (before ++ byte ∷ [])) (status_from says (before ++ byte ∷ []) more)

-- the status of some bytes: what the first byte decides that decides anything
abbrev pub status : List ℕ → Status
status bytes = status_from decision [] bytes
