-- A text in parts, each with an end of its own.
use Rattle.std.specs.Prelude.{◌≡◌, ℕ, Bool, ◌==◌, List, [], ◌∷◌, ◌++◌, if◌then◌else◌}
use Rattle.std.specs.List.{onto_first}

-- the parts that such bytes end; the last part may lack its end if it has a byte
abbrev pub parts : (ℕ → Bool) → List ℕ → List (List ℕ)
parts ends [] = []
parts ends (b ∷ bytes) = if ends b then [] ∷ parts ends bytes else onto_first b (parts ends bytes)

-- the text before the first such byte
abbrev pub before : (ℕ → Bool) → List ℕ → List ℕ
before ends [] = []
before ends (b ∷ bytes) = if ends b then [] else b ∷ before ends bytes

-- LF, the end of a line
abbrev pub is_line_feed : ℕ → Bool
is_line_feed b = b == 10

-- bytes in front of the first part
abbrev pub onto : List ℕ → List (List ℕ) → List (List ℕ)
onto [] lines = lines
onto (b ∷ bytes) lines = onto_first b (onto bytes lines)

-- Whatever follows, the bytes begin the first of its lines.
abbrev pub IsUnended : List ℕ → Type 0
IsUnended bytes = (more : List ℕ) → parts is_line_feed (bytes ++ more) ≡ onto bytes (parts is_line_feed more)

-- Whatever follows, the text begins with this line, and the others are those of the rest.
abbrev pub BeginsWithLine : List ℕ → List ℕ → List ℕ → Type 0
BeginsWithLine text line rest = (more : List ℕ) → parts is_line_feed (text ++ more) ≡ line ∷ parts is_line_feed (rest ++ more)
