-- Decimal numbers as text.
use Rattle.std.specs.Prelude.{ℕ, zero, suc, Bool, not, ◌+◌, ◌-◌, ◌*◌, ◌/◌, ◌%◌, ◌&&◌, ◌==◌, nat_le, nat_lt, slice_index, List, [], ◌∷◌, ◌++◌, length, Option, Some, None, if◌then◌else◌}
use Rattle.std.specs.List.{list_all, fold}
use Rattle.std.specs.Char.{is_ascii_digit}

-- the digits of a number, of which there are at most `more` beside the last
abbrev pub digits_in : ℕ → ℕ → List ℕ
digits_in zero number = (48 + number) ∷ []
digits_in (suc more) number = if nat_lt number 10 then (48 + number) ∷ [] else digits_in more (number / 10) ++ (48 + number % 10) ∷ []

-- a number in decimal, with no leading zero. None has more digits beside the last than its own number
unfoldable pub decimal : ℕ → List ℕ
decimal number = digits_in number number

-- the number of decimal digits
abbrev pub value_of : List ℕ → ℕ
value_of digits = fold (λ value byte. value * 10 + (byte - 48)) 0 digits

-- a zero before another digit
abbrev pub has_leading_zero : List ℕ → Bool
has_leading_zero digits = nat_lt 1 (length digits) && (slice_index digits 0 == 48)

-- digits, at least one, and no leading zero
abbrev pub is_decimal : List ℕ → Bool
is_decimal text = nat_lt 0 (length text) && (list_all is_ascii_digit text && not (has_leading_zero text))

-- a number up to a greatest one
abbrev pub up_to : ℕ → ℕ → Option ℕ
up_to most number = if nat_le number most then Some number else None

-- the number of a text in decimal
abbrev pub decimal_of : List ℕ → ℕ → Option ℕ
decimal_of text most = if is_decimal text then up_to most (value_of text) else None

-- the number of digits, at least one; leading zeros count nothing
abbrev pub number_of : List ℕ → ℕ → Option ℕ
number_of text most = if nat_lt 0 (length text) && list_all is_ascii_digit text then up_to most (value_of text) else None
