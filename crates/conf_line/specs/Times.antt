-- Times (HAProxy manual, "Time format"): digits, and then a unit, or none for ms.
use Rattle.std.specs.Prelude.{ℕ, ◌*◌, not, List, [], take, drop, Option, Some, None, Result, codes, length, position, unwrap_or, if◌then◌else◌}
use Rattle.std.specs.Str.{bytes_eq}
use Rattle.std.specs.Char.{is_ascii_digit}
use Rattle.std.specs.Int.{div_ceil}
use Rattle.text_core.specs.Decimal.{up_to}
use Rattle.list_core.specs.Each.{◌>>=◌}
use Rattle.conf_line.specs.declared.fault.ConfKind.{ConfKind}
use Rattle.conf_line.specs.Words.{number_at, number_in}

-- so many times so many ms, if that has 64 bits
abbrev pub times : ℕ → ℕ → Option ℕ
times number ms = up_to 0xFFFF_FFFF_FFFF_FFFF (number * ms)

-- the ms of so many of a unit; microseconds are rounded up
abbrev pub in_ms : List ℕ → ℕ → Option ℕ
in_ms unit number =
    if bytes_eq unit [] then Some number
    else if bytes_eq unit (codes "us") then Some (div_ceil number 1000)
    else if bytes_eq unit (codes "ms") then Some number
    else if bytes_eq unit (codes "s") then times number 1000
    else if bytes_eq unit (codes "m") then times number 60000
    else if bytes_eq unit (codes "h") then times number 3600000
    else if bytes_eq unit (codes "d") then times number 86400000
    else None

-- where the unit of a word begins, if it has one
abbrev pub unit_at : List ℕ → Option ℕ
unit_at word = position (λ byte. not (is_ascii_digit byte)) word

-- where its digits end
abbrev pub digits_end : List ℕ → ℕ
digits_end word = unwrap_or (unit_at word) (length word)

-- a time in ms
abbrev pub time_at : List ℕ → Result ℕ ConfKind
time_at word = do
  number ← number_at (take (digits_end word) word)
  number_in (in_ms (drop (digits_end word) word) number)
