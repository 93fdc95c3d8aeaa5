-- Texts whose end is not known yet.
use Rattle.std.specs.Prelude.{◌≡◌, ℕ, ◌<◌, List, [], ◌∷◌, ◌++◌, length}
use Rattle.text_core.specs.Parts.{parts, is_line_feed}
use Rattle.line_reader.specs.declared.lines.TheConstants.{MOST_LINE_BYTES}

-- whatever follows, the first line of the text is longer than a line may be
abbrev pub BeginsTooLong : List ℕ → Type 0
BeginsTooLong text =
    (more : List ℕ) → (line : List ℕ) × (rest : List (List ℕ)) × (parts is_line_feed (text ++ more) ≡ line ∷ rest) × (MOST_LINE_BYTES < length line)
