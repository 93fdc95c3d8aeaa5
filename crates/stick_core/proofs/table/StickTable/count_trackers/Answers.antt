use Rattle.std.proofs.Common.{sym, ap, ◌∙◌}
use Rattle.std.specs.Option.{option_map_or}
use Rattle.stick_core.specs.Entries.{cur_of, living}
use Rattle.stick_core.specs.Listing.{cur_at}
use Rattle.stick_core.proofs.LivingLemmas.{cur_of-living}
use Rattle.stick_core.proofs.table.StickTable.count_trackers.Goals as goal

pub returns-in-Some : goal.returns-in-Some
returns-in-Some c =
    let kept = c.self.inside.touched.entries in
    c.cur_in.ensures ∙ ap (λ o. option_map_or (λ e. e.cur) o 0) c.entry.ensures
    ∙ sym (cur_of-living c.self.inside.expire c.self.inside.clock kept c.self.invariant.0.once c.in-Some.key)
    ∙ ap (λ o. option_map_or (λ key. cur_of key (living c.self.inside.expire c.self.inside.clock kept)) o 0) (sym c.in-Some.is ∙ c.key_of.ensures)
    ∙ ap (λ t. cur_at t c.args.addr.now) c.self.view_is
