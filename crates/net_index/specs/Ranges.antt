-- Ranges of numbers.
use Rattle.std.specs.Prelude.{ℕ, Bool, false, nat_le, ◌&&◌, ◌<◌, ◌≤◌, List, [], ◌∷◌, Option, Some, None}
use Rattle.std.specs.List.{list_any, AllByRecursion}
use Rattle.net_index.specs.declared.range.Range.{Range}
use Rattle.net_index.specs.declared.range.Short.{Short}

abbrev pub is_within : ℕ → Range → Bool
is_within n range = nat_le range.first n && nat_le n range.last

-- a range of numbers of 32 bits, as any range
abbrev pub wide : Short → Range
wide short = record { first = short.first; last = short.last }

abbrev pub is_in : Option Range → ℕ → Bool
is_in None n = false
is_in (Some range) n = is_within n range

-- some range has the number
abbrev pub covers : List Range → ℕ → Bool
covers ranges n = list_any (is_within n) ranges

-- a range ends before another one begins
pub record IsBefore (range later : Range) : Type 0 where
  pub begins : range.first ≤ later.first
  pub ends : range.last < later.first

-- each range ends before those after it begin
abbrev pub AreApart : List Range → Type 0
AreApart [] = Unit {0}
AreApart (range ∷ ranges) = AllByRecursion (IsBefore range) ranges × AreApart ranges

-- no range begins after that number
abbrev pub BeginBefore : ℕ → List Range → Type 0
BeginBefore n ranges = AllByRecursion (λ range. range.first ≤ n) ranges
