-- A text cut in two.
use Rattle.std.specs.Prelude.{ℕ, nat_eq, List, [], ◌∷◌, length, drop, Option, Some, None, if◌then◌else◌}
use Rattle.std.specs.List.{starts_with}
use Rattle.std.specs.Option.{option_map}

-- the text before the first mark, and the text after it
abbrev pub cut : List ℕ → List ℕ → Option (List ℕ × List ℕ)
cut mark [] = None
cut mark (byte ∷ more) =
    if starts_with nat_eq (byte ∷ more) mark then Some ([], drop (length mark) (byte ∷ more))
    else option_map (λ parts. (byte ∷ parts.0, parts.1)) (cut mark more)
