-- Items in the order of their lines.
use Rattle.std.specs.Prelude.{ℕ, List, [], ◌∷◌, ◌<◌}
use Rattle.std.specs.List.{AllByRecursion}
use Rattle.conf_tree.specs.declared.tree.ConfigLine.{ConfigLine}

-- each line is greater than that one
abbrev pub AreAbove : ℕ → List ConfigLine → Type 0
AreAbove line items = AllByRecursion (λ item. line < item.line) items

-- each item's line is less than those of all items after it
abbrev pub Rises : List ConfigLine → Type 0
Rises [] = Unit {0}
Rises (item ∷ rest) = AreAbove item.line rest × Rises rest
