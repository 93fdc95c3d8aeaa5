use Rattle.std.proofs.Common.{◌<◌, length, sym, ap, ◌∙◌, subst, arith}
use Rattle.std.specs.List.{AllByRecursion}
use Rattle.keyed_list.specs.Boxes.{entries_in, opened_by, settled}
use Rattle.keyed_list.proofs.PlaceLemmas.{none-below-zero, rise-back}
use Rattle.keyed_list.proofs.TreeLemmas.{length-settled}
use Rattle.keyed_list.proofs.PlaceLemmas.{none-listed}
use Rattle.keyed_list.proofs.list.KeyedList.end.Goals as goal

pub destroy_empty-requires : goal.destroy_empty-requires
destroy_empty-requires g c =
    let none = ap length (c.self.view_is ∙ c.requires) in
    let all = length-settled (λ own. own.value) c.self.inside.tree.entries c.self.inside.places.items in
    none-listed c.self.inside.tree.entries (omega (arith, none, all))

pub trim-requires : goal.trim-requires
trim-requires g c = rise-back (λ p. p.0) (settled c.self.inside.tree.entries) c.self.inside.places.items c.self.invariant.rise

pub destroy_empty-requires-2 : goal.destroy_empty-requires-2
destroy_empty-requires-2 g c =
    let none = ap length (c.self.view_is ∙ c.requires) in
    let all = length-settled (λ own. own.value) c.self.inside.tree.entries c.self.inside.places.items in
    let gone = c.trim.ensures.entries ∙ none-listed (entries_in (opened_by (λ own. own.value) (c.self.inside.places.items))) (omega (arith, none, all)) in
    let empty = none-below-zero (λ p. p.0) c.trim.new.places.items (c.trim.ensures.below 0 (subst (λ es. AllByRecursion (λ e. e.0 < 0) es) (sym gone) tt)) in
    search
