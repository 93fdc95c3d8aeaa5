-- IPv6 addresses as text (RFC 4291, section 2.2).
use Rattle.std.specs.Prelude.{◌≤◌, ◌≡◌, ◌⊎◌, ℕ, Bool, true, false, not, ◌+◌, ◌-◌, ◌*◌, ◌/◌, ◌%◌, ◌^◌, ◌<◌, ◌&&◌, ◌||◌, ◌==◌, nat_lt, List, [], ◌∷◌, ◌++◌, length, replicate, codes, Result, Ok, Err, Option, Some, None, if◌then◌else◌}
use Rattle.std.specs.List.{fold, join_with_byte, list_all, list_any, slice_split}
use Rattle.std.specs.Option.{option_map}
use Rattle.std.specs.Char.{digit_value, is_ascii_hexdigit}
use Rattle.list_core.specs.Each.{◌>>=◌}
use Rattle.text_core.specs.Cut.{cut}
use Rattle.addr_core.specs.Dotted.{dotted_of, dotted_text, is_colon, is_dot, is_empty}
use Rattle.addr_core.specs.declared.reading.AddrFault.{AddrFault}
use Rattle.addr_core.specs.declared.reading.AddrFault.TheVariants.{BadDigit, OutOfRange, BadGroups}

-- the value of a hexadecimal digit of either case
abbrev pub nibble : ℕ → ℕ
nibble byte = if nat_lt (digit_value byte) 16 then digit_value byte else 0

-- the number of hexadecimal digits
abbrev pub hex_value : List ℕ → ℕ
hex_value digits = fold (λ value byte. value * 16 + nibble byte) 0 digits

-- the number of an address with these groups
abbrev pub number_of : List ℕ → ℕ
number_of groups = fold (λ number group. number * 2 ^ 16 + group) 0 groups

-- ---- the texts of an address

-- one to four hexadecimal digits of either case
abbrev pub is_group : List ℕ → Bool
is_group word = not (is_empty word) && (nat_lt (length word) 5 && list_all is_ascii_hexdigit word)

abbrev pub IsGroup : List ℕ → ℕ → Type 0
IsGroup word group = (is_group word ≡ true) × (hex_value word ≡ group)

-- a word that has two groups, as an IPv4 address
abbrev pub IsTail : List ℕ → List ℕ → Type 0
IsTail word groups = (number : ℕ) × (number < 2 ^ 32) × (word ≡ dotted_text number) × (groups ≡ (number / 2 ^ 16) ∷ (number % 2 ^ 16) ∷ [])

-- the groups of words: one of each, but two of the last if it is dotted and may be
abbrev pub AreGroups : Bool → List (List ℕ) → List ℕ → Type 0
AreGroups dotted [] groups = groups ≡ []
AreGroups dotted (word ∷ words) groups =
    ((dotted ≡ true) × (words ≡ []) × IsTail word groups)
    ⊎ ((group : ℕ) × (rest : List ℕ) × (groups ≡ group ∷ rest) × IsGroup word group × AreGroups dotted words rest)

-- eight groups with single colons: 58 is the colon
abbrev pub IsWhole : List ℕ → ℕ → Type 0
IsWhole text number =
    (words : List (List ℕ)) × (groups : List ℕ) × (text ≡ join_with_byte 58 words) × AreGroups true words groups × (length groups ≡ 8) × (number ≡ number_of groups)

-- two colons for one zero group or more
abbrev pub IsShort : List ℕ → ℕ → Type 0
IsShort text number =
    (front : List (List ℕ)) × (back : List (List ℕ)) × (before : List ℕ) × (after : List ℕ) × (text ≡ join_with_byte 58 front ++ 58 ∷ 58 ∷ join_with_byte 58 back) × AreGroups false front before × AreGroups true back after
    × (length before + length after < 8) × (number ≡ number_of (before ++ replicate (8 - (length before + length after)) 0 ++ after))

-- a text of the address with the number
abbrev pub IsSixText : List ℕ → ℕ → Type 0
IsSixText text number = IsWhole text number ⊎ IsShort text number

-- ---- what is read of a text that has a colon, and which fault comes first

abbrev pub is_six_byte : ℕ → Bool
is_six_byte byte = is_ascii_hexdigit byte || (is_colon byte || is_dot byte)

abbrev pub has_dot : List ℕ → Bool
has_dot word = list_any is_dot word

-- the words between single colons; an empty text has none
abbrev pub words_of : List ℕ → List (List ℕ)
words_of text = if is_empty text then [] else slice_split is_colon text

-- how many groups words have, where none is empty, and none has a dot but the last, where it may
abbrev pub group_count : Bool → List (List ℕ) → Option ℕ
group_count dotted [] = Some 0
group_count dotted (word ∷ []) = if is_empty word then None else if not (has_dot word) then Some 1 else if dotted then Some 2 else None
group_count dotted (word ∷ next ∷ words) =
    if is_empty word || has_dot word then None else option_map (λ count. count + 1) (group_count dotted (next ∷ words))

-- a group has at most four digits
abbrev pub group_of : List ℕ → Result ℕ AddrFault
group_of word = if nat_lt 4 (length word) then Err OutOfRange else Ok (hex_value word)

-- the groups of a word
abbrev pub word_groups : List ℕ → Result (List ℕ) AddrFault
word_groups word =
    if has_dot word then dotted_of (slice_split is_dot word) >>= (λ number. Ok ((number / 2 ^ 16) ∷ (number % 2 ^ 16) ∷ []))
    else group_of word >>= (λ group. Ok (group ∷ []))

-- the groups of words, or the fault of the first word that has one
abbrev pub groups_in : List (List ℕ) → Result (List ℕ) AddrFault
groups_in [] = Ok []
groups_in (word ∷ words) = word_groups word >>= λ groups. groups_in words >>= λ rest. Ok (groups ++ rest)

abbrev pub is_eight : Option ℕ → Bool
is_eight None = false
is_eight (Some count) = count == 8

-- the number of words with eight groups
abbrev pub whole_of : List (List ℕ) → Result ℕ AddrFault
whole_of words = if is_eight (group_count true words) then groups_in words >>= (λ groups. Ok (number_of groups)) else Err BadGroups

-- how many zero groups two colons are: at least one
abbrev pub gap_of : Option ℕ → Option ℕ → Option ℕ
gap_of None after = None
gap_of (Some before) None = None
gap_of (Some before) (Some after) = if nat_lt (before + after) 8 then Some (8 - (before + after)) else None

-- the number of words before and after two colons
abbrev pub short_with : List (List ℕ) → List (List ℕ) → Option ℕ → Result ℕ AddrFault
short_with front back None = Err BadGroups
short_with front back (Some gap) =
    groups_in front >>= λ before. groups_in back >>= λ after. Ok (number_of (before ++ replicate gap 0 ++ after))

abbrev pub short_of : List (List ℕ) → List (List ℕ) → Result ℕ AddrFault
short_of front back = short_with front back (gap_of (group_count false front) (group_count true back))

-- a text with two colons at the place of the cut, or with none
abbrev pub parts_of : List ℕ → Option (List ℕ × List ℕ) → Result ℕ AddrFault
parts_of text None = whole_of (words_of text)
parts_of text (Some parts) = short_of (words_of parts.0) (words_of parts.1)

-- the number of the address of a text with a colon
abbrev pub six_of : List ℕ → Result ℕ AddrFault
six_of text = if list_all is_six_byte text then parts_of text (cut (codes "::") text) else Err BadDigit

-- ---- how the groups are collected

-- the new list is the old one and then what was read
abbrev pub ReadsOnto : List ℕ → Result (List ℕ) AddrFault → List ℕ → Type 0
ReadsOnto old read new = (groups : List ℕ) × (read ≡ Ok groups) × (new ≡ old ++ groups)

-- after so many groups, those of the words make no more than eight
abbrev pub HasRoom : ℕ → List (List ℕ) → Type 0
HasRoom used words = (dotted : Bool) × (count : ℕ) × (group_count dotted words ≡ Some count) × (used + count ≤ 8)
