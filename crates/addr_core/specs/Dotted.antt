-- IPv4 addresses as text.
use Rattle.std.specs.Prelude.{ℕ, Bool, not, ◌+◌, ◌*◌, ◌/◌, ◌%◌, ◌^◌, ◌||◌, ◌==◌, nat_lt, List, [], ◌∷◌, length, map, Result, Ok, Err, if◌then◌else◌}
use Rattle.std.specs.List.{join_with_byte, list_all}
use Rattle.std.specs.Char.{is_ascii_digit}
use Rattle.list_core.specs.Each.{◌>>=◌}
use Rattle.text_core.specs.Decimal.{decimal, has_leading_zero, value_of}
use Rattle.addr_core.specs.declared.reading.AddrFault.{AddrFault}
use Rattle.addr_core.specs.declared.reading.AddrFault.TheVariants.{BadDigit, LeadingZero, OutOfRange, BadGroups}

-- ---- what is written

-- the octets of an IPv4 address
abbrev pub octets_of : ℕ → List ℕ
octets_of number = (number / 2 ^ 24) ∷ (number / 2 ^ 16 % 2 ^ 8) ∷ (number / 2 ^ 8 % 2 ^ 8) ∷ (number % 2 ^ 8) ∷ []

-- an IPv4 address in dotted decimal: 46 is the dot
abbrev pub dotted_text : ℕ → List ℕ
dotted_text number = join_with_byte 46 (map decimal (octets_of number))

-- ---- bytes and parts

abbrev pub is_dot : ℕ → Bool
is_dot byte = byte == 46

abbrev pub is_colon : ℕ → Bool
is_colon byte = byte == 58

abbrev pub is_empty : List ℕ → Bool
is_empty text = length text == 0

-- ---- what is read

-- the number of a part of an IPv4 address
abbrev pub octet_of : List ℕ → Result ℕ AddrFault
octet_of part =
    if not (list_all is_ascii_digit part) then Err BadDigit
    else if has_leading_zero part then Err LeadingZero
    else if nat_lt 255 (value_of part) then Err OutOfRange
    else Ok (value_of part)

-- the number of four parts, or the fault of the first part that has one
abbrev pub four_of : List ℕ → List ℕ → List ℕ → List ℕ → Result ℕ AddrFault
four_of first second third fourth = do
  a ← octet_of first
  b ← octet_of second
  c ← octet_of third
  d ← octet_of fourth
  Ok (((a * 2 ^ 8 + b) * 2 ^ 8 + c) * 2 ^ 8 + d)

-- the number of the parts between dots: four, none of them empty
abbrev pub dotted_of : List (List ℕ) → Result ℕ AddrFault
dotted_of (a ∷ b ∷ c ∷ d ∷ []) =
    if is_empty a || is_empty b || is_empty c || is_empty d then Err BadGroups else four_of a b c d
dotted_of parts = Err BadGroups
