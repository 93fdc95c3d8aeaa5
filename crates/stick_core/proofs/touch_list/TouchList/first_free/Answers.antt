use Rattle.std.proofs.Common.{◌≡◌, Some, None, find, sym, ap, ◌∙◌}
use Rattle.std.specs.Prelude.{option_map, slice_get}
use Rattle.stick_core.specs.Entries.{is_free}
use Rattle.stick_core.specs.Places.{entry_at}
use Rattle.stick_core.proofs.PlaceLemmas.{first-free, free-below}
use Rattle.stick_core.proofs.touch_list.TouchList.first_free.Goals as goal

pub entry_at_place-requires : goal.entry_at_place-requires
entry_at_place-requires c = free-below c.self.inside.index.entries c.self.inside.touched c.self.inside.free c.in-Some.place c.self.invariant (sym c.in-Some.ensures)

pub returns-in-Some : goal.returns-in-Some
returns-in-Some c =
    ap (λ e. Some e) c.entry_at_place.ensures ∙ ap (option_map (entry_at c.self.inside.index.entries)) c.in-Some.ensures
    ∙ ap (λ l. option_map (entry_at c.self.inside.index.entries) (slice_get l 0)) c.self.invariant.free_ones
    ∙ first-free c.self.inside.index.entries c.self.inside.touched.order ∙ ap (λ t. find is_free t.entries) c.self.view_is

pub returns-in-None : goal.returns-in-None
returns-in-None c =
    let none : None ≡ slice_get c.self.inside.free.order 0 = c.in-None.ensures in
    ap (option_map (entry_at c.self.inside.index.entries)) none
    ∙ ap (λ l. option_map (entry_at c.self.inside.index.entries) (slice_get l 0)) c.self.invariant.free_ones
    ∙ first-free c.self.inside.index.entries c.self.inside.touched.order ∙ ap (λ t. find is_free t.entries) c.self.view_is
