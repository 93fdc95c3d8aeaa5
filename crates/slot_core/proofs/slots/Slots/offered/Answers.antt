use Rattle.std.proofs.Common.{ap, subst, sym, ◌∙◌}
use Rattle.std.specs.List.{position}
use Rattle.slot_core.specs.Counts.{open_in}
use Rattle.slot_core.specs.Totals.{has_name, NamesDiffer}
use Rattle.slot_core.proofs.TotalLemmas.{none_found, total_found}
use Rattle.slot_core.proofs.slots.Slots.offered.Goals as goal

pub find_near-requires : goal.find_near-requires
find_near-requires c = subst NamesDiffer (sym c.as_slice.ensures.value) c.self.invariant.tied.numbers.apart

pub returns-in-Some : goal.returns-in-Some
returns-in-Some c =
    total_found c.self.inside.counts.items c.self.inside.backends.items c.self.inside.totals.items c.in-Some.place c.args.backend.now c.index.result.now c.self.invariant.tied
    (ap (position (has_name c.args.backend.now)) (sym c.as_slice.ensures.value) ∙ sym c.find_near.ensures ∙ c.in-Some.is) c.index.ensures
    ∙ ap (open_in c.args.backend.now) c.self.view_is

pub returns-in-None : goal.returns-in-None
returns-in-None c =
    sym (none_found c.self.inside.counts.items c.self.inside.backends.items c.self.inside.totals.items c.args.backend.now c.self.invariant.tied
    (ap (position (has_name c.args.backend.now)) (sym c.as_slice.ensures.value) ∙ sym c.find_near.ensures ∙ c.in-None.is))
    ∙ ap (open_in c.args.backend.now) c.self.view_is
