-- What a reader of lines gives of the bytes that it reads.
use Rattle.std.specs.Prelude.{◌≡◌, ◌⊎◌, ℕ, ◌≤◌, List, [], ◌∷◌, ◌++◌, length, Option, Some, None}
use Rattle.std.specs.Io.KnownBytes.{Consumes}
use Rattle.text_core.specs.Parts.{parts, is_line_feed, BeginsWithLine}
use Rattle.device_core.specs.Device.{raised}
use Rattle.device_core.specs.Patience.{IsWornOut}
use Rattle.line_reader.specs.declared.lines.TheConstants.{MOST_LINE_BYTES}
use Rattle.line_reader.specs.declared.lines.Next.{Next}
use Rattle.line_reader.specs.declared.lines.Next.TheVariants.{Line, LastLine, End}

-- a reader of lines: the line that it gave last, the bytes after it that it has read already, and how many reads it may still make
pub record LineState : Type 0 where
  pub line : List ℕ
  pub kept : List ℕ
  pub reads : ℕ

-- all that was left was read, where the device reports it
abbrev pub ConsumesAll : Option (List ℕ) → Option (List ℕ) → List ℕ → Type 0
ConsumesAll None new bytes = Unit {0}
ConsumesAll (Some left) new bytes = (left ≡ bytes) × (new ≡ Some [])

-- A line was given: what was kept and what was read begins with it, whatever follows.
pub record GivesLine (old new : LineState) (left less : Option (List ℕ)) : Type 0 where
  pub bytes : List ℕ
  pub moved : Consumes left less bytes
  pub begins : BeginsWithLine (old.kept ++ bytes) new.line new.kept
  pub fits : length new.line ≤ MOST_LINE_BYTES

-- The last line was given, which lacks its line feed: it is all that was kept and all that was left.
pub record GivesLastLine (old new : LineState) (left less : Option (List ℕ)) : Type 0 where
  pub bytes : List ℕ
  pub moved : ConsumesAll left less bytes
  pub is_line : parts is_line_feed (old.kept ++ bytes) ≡ new.line ∷ []
  pub fits : length new.line ≤ MOST_LINE_BYTES

-- Nothing was kept, and nothing is left.
pub record GivesNothing (old new : LineState) (left less : Option (List ℕ)) : Type 0 where
  pub bytes : List ℕ
  pub moved : ConsumesAll left less bytes
  pub is_empty : old.kept ++ bytes ≡ []

-- what a reader of lines gives
abbrev pub Gives : Next → LineState → LineState → Option (List ℕ) → Option (List ℕ) → Type 0
Gives Line old new left less = GivesLine old new left less
Gives LastLine old new left less = GivesLastLine old new left less
Gives End old new left less = GivesNothing old new left less

-- Nothing is lost: what was kept and what was read is what there is of a line, and what is kept.
pub record Gathers (old new : LineState) (left less : Option (List ℕ)) : Type 0 where
  pub bytes : List ℕ
  pub moved : Consumes left less bytes
  pub same : old.kept ++ bytes ≡ new.line ++ new.kept

-- The reader failed once in the call, or it did not and its patience ran out: the last million calls were blocked, or no read is left.
abbrev pub IsGivenUp : ℕ → ℕ → ℕ → ℕ → ℕ → Type 0
IsGivenUp before failures blocked stalls reads =
    (failures ≡ raised before) ⊎ ((failures ≡ before) × (IsWornOut blocked stalls ⊎ (reads ≡ 0)))
