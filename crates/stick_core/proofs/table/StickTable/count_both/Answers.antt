use Rattle.std.proofs.Common.{◌≤◌, find, sym, ap, ◌∙◌, arith}
use Rattle.std.specs.Option.{option_map_or}
use Rattle.stick_core.specs.Entries.{cur_of, cnt_of, is_of, living}
use Rattle.stick_core.specs.Listing.{cur_at, cnt_at, passed}
use Rattle.stick_core.proofs.LivingLemmas.{cur_of-living, living-later}
use Rattle.stick_core.proofs.table.StickTable.count_both.Goals as goal

pub returns-clause-cur : goal.returns-clause-cur
returns-clause-cur c =
    let kept = c.self.inside.touched.entries in
    let once = c.self.invariant.0.once in
    c.cur_in.ensures ∙ ap (λ o. option_map_or (λ e. e.cur) o 0) c.living_entry-entry.ensures
    ∙ cur_of-living c.self.inside.expire c.args.moment kept once c.in-Some.key
    ∙ sym (cur_of-living c.self.inside.expire c.self.inside.clock kept once c.in-Some.key)
    ∙ ap (λ o. option_map_or (λ key. cur_of key (living c.self.inside.expire c.self.inside.clock kept)) o 0) (sym c.in-Some.is ∙ c.key_of.ensures)
    ∙ ap (λ t. cur_at t c.args.addr.now) c.self.view_is

pub returns-clause-cnt : goal.returns-clause-cnt
returns-clause-cnt c =
    let kept = c.self.inside.touched.entries in
    let same = ap (λ t. t.clock) c.self.view_is in
    let later : c.self.inside.clock ≤ c.args.moment = omega (arith, same, c.requires) in
    c.cnt_in.ensures
    ∙ ap (λ o. option_map_or (λ e. e.cnt) o 0)
    (c.living_entry-entry.ensures ∙ ap (λ l. find (is_of c.in-Some.key) l) (sym (living-later c.self.inside.expire c.self.inside.clock c.args.moment later kept)))
    ∙ ap (λ o. option_map_or (λ key. cnt_of key (living c.self.inside.expire c.args.moment (living c.self.inside.expire c.self.inside.clock kept))) o 0) (sym c.in-Some.is ∙ c.key_of.ensures)
    ∙ ap (λ t. cnt_at (passed c.args.moment t) c.args.addr.now) c.self.view_is
