use Rattle.std.proofs.Common.{◌≡◌, ◌<◌, None, Some, find, length, set, refl, sym, ap, ◌∙◌}
use Rattle.std.specs.Prelude.{slice_get}
use Rattle.std.specs.List.{list_any}
use Rattle.std.specs.Option.{is_some}
use Rattle.stick_core.specs.Entries.{is_of, is_free, added, first_entry, without_first_free}
use Rattle.stick_core.specs.Places.{first_counts}
use Rattle.stick_core.proofs.PlaceLemmas.{IsReplaced, any-free, free-below, free-first, no-place, replace}
use Rattle.stick_core.proofs.touch_list.TouchList.replace_first_free.Goals as goal

pub returns-in-None-clause-answer : goal.returns-in-None-clause-answer
returns-in-None-clause-answer c =
    let none : None ≡ slice_get c.self.inside.free.order 0 = sym c.in-None.is ∙ c.first.ensures in
    ap (λ o. is_some o) none ∙ ap (λ l. is_some (slice_get l 0)) c.self.invariant.free_ones
    ∙ any-free c.self.inside.index.entries c.self.inside.touched.order ∙ ap (λ t. list_any is_free t.entries) c.self.view_is

pub replace-requires-clause-place : goal.replace-requires-clause-place
replace-requires-clause-place c = free-below c.self.inside.index.entries c.self.inside.touched c.self.inside.free c.in-Some.place c.self.invariant (sym c.in-Some.ensures)

pub replace-requires-clause-none : goal.replace-requires-clause-none
replace-requires-clause-none c =
    no-place c.self.inside.index.entries c.self.inside.touched c.self.inside.free c.args.key c.self.invariant (ap (λ t. find (is_of c.args.key) t.entries) c.self.view_is ∙ c.requires)

pub remove-requires : goal.remove-requires
remove-requires c =
    free-first c.self.inside.index.entries c.self.inside.touched c.self.inside.free c.in-Some.place c.self.invariant (sym c.in-Some.ensures)

pub move_last-requires-clause-place : goal.move_last-requires-clause-place
move_last-requires-clause-place c = rw c.self.invariant.touched_places (free-below c.self.inside.index.entries c.self.inside.touched c.self.inside.free c.in-Some.place c.self.invariant (sym c.in-Some.ensures))

pub move_last-requires-clause-has : goal.move_last-requires-clause-has
move_last-requires-clause-has c =
    c.self.invariant.each c.in-Some.place
    (free-below c.self.inside.index.entries c.self.inside.touched c.self.inside.free c.in-Some.place c.self.invariant (sym c.in-Some.ensures))

-- what the index and both orders are then
all : (c : goal.After-move_last) → IsReplaced c.self.inside.index.entries c.replace.new.self.entries c.self.inside.touched c.move_last.new.order c.remove.new.self (first_entry c.args.moment c.args.key)
all c =
    let entries = c.self.inside.index.entries in
    let at : slice_get c.self.inside.free.order 0 ≡ Some c.in-Some.place = sym c.in-Some.ensures in
    let less : c.in-Some.place < length entries = free-below entries c.self.inside.touched c.self.inside.free c.in-Some.place c.self.invariant at in
    replace entries c.replace.new.self.entries c.self.inside.touched c.move_last.new.order c.self.inside.free c.remove.new.self (c.args.key, first_counts c.args.moment) c.in-Some.place
    c.self.invariant refl at (c.replace.ensures.entries ∙ ap (λ x. set entries c.in-Some.place (c.args.key, x)) c.first_counts.ensures)
    c.move_last.ensures c.remove.ensures

pub invariant_of-self : goal.invariant_of-self
invariant_of-self c = (all c).kept

pub returns-in-Some-clause-answer : goal.returns-in-Some-clause-answer
returns-in-Some-clause-answer c =
    ap (λ o. is_some o) c.in-Some.ensures ∙ ap (λ l. is_some (slice_get l 0)) c.self.invariant.free_ones
    ∙ any-free c.self.inside.index.entries c.self.inside.touched.order ∙ ap (λ t. list_any is_free t.entries) c.self.view_is

pub returns-in-Some-clause-entries : goal.returns-in-Some-clause-entries
returns-in-Some-clause-entries c = λ _. (all c).entries ∙ ap (λ t. added c.args.moment c.args.key (without_first_free t.entries)) c.self.view_is
