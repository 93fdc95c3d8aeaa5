-- What is kept of the lines: those that have an effect.
use Rattle.std.proofs.Common.{◌≡◌, true, false, List, [], ◌∷◌, ◌++◌, ap, ◌∙◌, if◌then◌else◌}
use Rattle.std.proofs.lemmas.List.{append-nil}
use Rattle.std.proofs.lemmas.List.Elements.{filter-append}
use Rattle.conf_tree.specs.declared.tree.ConfigLine.{ConfigLine}
use Rattle.conf_tree.specs.Config.{has_effect, with_effect}

pub kept : (all : List ConfigLine) (item : ConfigLine) → has_effect item.statement ≡ true → with_effect (all ++ item ∷ []) ≡ with_effect all ++ item ∷ []
kept all item has = filter-append (λ i. has_effect i.statement) all (item ∷ []) ∙ ap (λ b. with_effect all ++ (if b then item ∷ [] else [])) has

pub skipped : (all : List ConfigLine) (item : ConfigLine) → has_effect item.statement ≡ false → with_effect (all ++ item ∷ []) ≡ with_effect all
skipped all item none = filter-append (λ i. has_effect i.statement) all (item ∷ []) ∙ ap (λ b. with_effect all ++ (if b then item ∷ [] else [])) none ∙ append-nil (with_effect all)
