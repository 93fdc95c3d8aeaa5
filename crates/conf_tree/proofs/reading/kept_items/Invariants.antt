use Rattle.std.proofs.Common.{◌≡◌, List, [], drop}
use Rattle.list_core.specs.Each.{each}
use Rattle.conf_tree.specs.declared.tree.ConfigLine.{ConfigLine}
use Rattle.conf_tree.specs.Config.{with_effect, next_item}
use Rattle.conf_tree.proofs.reading.kept_items.Given as goal

abbrev pub invariant-loop-line : goal.invariant-loop-line
invariant-loop-line l =
    (all : List ConfigLine) × (l.kept ≡ with_effect all) × (each next_item all (drop l.line-index l.lines) ≡ each next_item [] l.lines)
