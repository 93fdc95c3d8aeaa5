use Rattle.std.proofs.Common.{◌++◌, ap, ◌∙◌}
use Rattle.keyed_list.specs.Boxes.{entries_in, opened_by, settled}
use Rattle.keyed_list.proofs.PlaceLemmas.{same-after}
use Rattle.std.specs.Vec.Iter.{into_iter_items}
use Rattle.keyed_list.proofs.places.settle.Goals as goal

pub returns-clause-entries : goal.returns-clause-entries
returns-clause-entries g c =
    let taken = c.into_iter-rest.ensures.rest ∙ ap (λ ps. ps.items) c.swap.ensures.y_after in
    same-after (λ own. own.value) (settled c.settle_first.new.tree.entries) c.move_items.new.to.items (c.settle_first.new.to.items ++ into_iter_items c.settle_first.new.rest) c.move_items.ensures.entries
    ∙ c.settle_first.ensures.entries ∙ ap (λ ps. entries_in (opened_by (λ own. own.value) (settled c.args.tree.now.entries ++ ps))) taken
