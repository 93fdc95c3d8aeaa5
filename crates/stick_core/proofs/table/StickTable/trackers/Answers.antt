use Rattle.std.proofs.Common.{sym, ap, ◌∙◌}
use Rattle.std.specs.Option.{option_map_or}
use Rattle.stick_core.specs.Entries.{cur_of, living}
use Rattle.stick_core.proofs.LivingLemmas.{cur_of-living}
use Rattle.stick_core.proofs.table.StickTable.trackers.Goals as goal

pub returns : goal.returns
returns c =
    let kept = c.self.inside.touched.entries in
    c.cur_in.ensures ∙ ap (λ o. option_map_or (λ e. e.cur) o 0) c.entry.ensures
    ∙ sym (cur_of-living c.self.inside.expire c.self.inside.clock kept c.self.invariant.0.once c.addr.result)
    ∙ ap (λ key. cur_of key (living c.self.inside.expire c.self.inside.clock kept)) (c.addr.ensures ∙ c.tracked.view_is)
    ∙ ap (λ t. cur_of c.args.tracked.now t.entries) c.self.view_is
