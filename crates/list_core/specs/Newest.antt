-- The last item of a list.
use Rattle.std.specs.Prelude.{List, [], ◌∷◌, Option, Some, None}

-- the last of a list
abbrev pub newest : {X : Type 0} → List X → Option X
newest [] = None
newest (x ∷ []) = Some x
newest (x ∷ y ∷ xs) = newest (y ∷ xs)
