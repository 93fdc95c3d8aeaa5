use Rattle.std.proofs.Common.{sym, ap, ◌∙◌, Some, find}
use Rattle.stick_core.specs.Entries.{is_of}
use Rattle.stick_core.proofs.PlaceLemmas.{found-entry, missing-entry}
use Rattle.stick_core.proofs.touch_list.TouchList.entry.Goals as goal

pub entry_at_place-requires : goal.entry_at_place-requires
entry_at_place-requires c = c.in-Some.ensures.some.within

pub returns-in-Some : goal.returns-in-Some
returns-in-Some c =
    sym (ap (λ l. find (is_of c.args.key.now) l.entries) (sym c.self.view_is)
    ∙ found-entry c.self.inside.index.entries c.self.inside.touched c.self.inside.free c.args.key.now c.in-Some.place c.self.invariant c.in-Some.ensures.some
    ∙ ap (λ e. Some e) (sym c.entry_at_place.ensures))

pub returns-in-None : goal.returns-in-None
returns-in-None c =
    sym (ap (λ l. find (is_of c.args.key.now) l.entries) (sym c.self.view_is)
    ∙ missing-entry c.self.inside.index.entries c.self.inside.touched c.self.inside.free c.args.key.now c.self.invariant c.in-None.ensures.none)
