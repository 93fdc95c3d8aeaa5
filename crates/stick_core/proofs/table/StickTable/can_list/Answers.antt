use Rattle.std.proofs.Common.{sym, ap, ◌∙◌}
use Rattle.stick_core.specs.Listing.{can_list}
use Rattle.stick_core.proofs.LivingLemmas.{can-living}
use Rattle.stick_core.proofs.table.StickTable.can_list.Goals as goal

pub returns : goal.returns
returns c =
    c.has_place_for.ensures
    ∙ sym (can-living c.self.inside.size c.self.inside.expire c.self.inside.clock c.args.key.now c.self.inside.touched.entries c.self.invariant.0)
    ∙ ap (λ t. can_list t.size t.entries c.args.key.now) c.self.view_is
