-- The groups of an IPv6 address, and how they are written.
use Rattle.std.specs.Prelude.{◌≡◌, ◌<◌, ◌≤◌, ℕ, zero, suc, ◌+◌, ◌/◌, ◌%◌, ◌^◌, ◌==◌, nat_le, nat_lt, List, [], ◌∷◌, ◌++◌, drop, map, take, if◌then◌else◌}
use Rattle.std.specs.List.{join_with_byte, prefix_len}
use Rattle.std.specs.Char.{digit_char}

-- the digits of a number, of which there are at most `more` beside the last
abbrev pub hex_in : ℕ → ℕ → List ℕ
hex_in zero number = digit_char number ∷ []
hex_in (suc more) number = if nat_lt number 16 then digit_char number ∷ [] else hex_in more (number / 16) ++ digit_char (number % 16) ∷ []

-- a group in hexadecimal: in lower case, at most four digits, no leading zero
unfoldable pub hexadecimal : ℕ → List ℕ
hexadecimal group = hex_in 3 group

-- the eight groups of an IPv6 address
abbrev pub groups_of : ℕ → List ℕ
groups_of number =
    (number / 2 ^ 112) ∷ (number / 2 ^ 96 % 2 ^ 16) ∷ (number / 2 ^ 80 % 2 ^ 16) ∷ (number / 2 ^ 64 % 2 ^ 16)
    ∷ (number / 2 ^ 48 % 2 ^ 16) ∷ (number / 2 ^ 32 % 2 ^ 16) ∷ (number / 2 ^ 16 % 2 ^ 16) ∷ (number % 2 ^ 16) ∷ []

-- how many zero groups come before the first that is not zero
abbrev pub zeros : List ℕ → ℕ
zeros groups = prefix_len (λ group. group == 0) groups

-- where a run of zero groups begins, and how many there are
pub record Run : Type 0 where
  pub place : ℕ
  pub count : ℕ

-- the run that begins here, unless a later one is longer
abbrev pub longer : ℕ → Run → Run
longer here later =
    if nat_le later.count here then record { place = 0; count = here }
    else record { place = later.place + 1; count = later.count }

-- the longest run of zero groups, the first of equal ones
abbrev pub longest : List ℕ → Run
longest [] = record { place = 0; count = 0 }
longest (group ∷ groups) = longer (zeros (group ∷ groups)) (longest groups)

-- what that says: the run is there, none is longer, and each before it is shorter
pub record IsLongest (place count : ℕ) (groups : List ℕ) : Type 0 where
  pub there : zeros (drop place groups) ≡ count
  pub longest : (at : ℕ) → zeros (drop at groups) ≤ count
  pub first : (at : ℕ) → at < place → zeros (drop at groups) < count

-- groups with single colons: 58 is the colon
abbrev pub colon_text : List ℕ → List ℕ
colon_text groups = join_with_byte 58 (map hexadecimal groups)

-- groups with two colons for a run of two or more
abbrev pub without_run : List ℕ → Run → List ℕ
without_run groups run =
    if nat_lt run.count 2 then colon_text groups
    else colon_text (take run.place groups) ++ 58 ∷ 58 ∷ colon_text (drop (run.place + run.count) groups)

-- groups as they are written
unfoldable pub groups_text : List ℕ → List ℕ
groups_text groups = without_run groups (longest groups)
