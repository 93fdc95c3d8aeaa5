use Rattle.std.proofs.Common.{◌≤◌, find, sym, ap, ◌∙◌, arith}
use Rattle.std.specs.Option.{option_map_or}
use Rattle.stick_core.specs.Entries.{cnt_of, is_of, living}
use Rattle.stick_core.specs.Listing.{cnt_at, passed}
use Rattle.stick_core.proofs.LivingLemmas.{living-later}
use Rattle.stick_core.proofs.table.StickTable.count_trackings.Goals as goal

pub returns-in-Some : goal.returns-in-Some
returns-in-Some c =
    let kept = c.self.inside.touched.entries in
    let same = ap (λ t. t.clock) c.self.view_is in
    let later : c.self.inside.clock ≤ c.args.moment = omega (arith, same, c.requires) in
    c.cnt_in.ensures
    ∙ ap (λ o. option_map_or (λ e. e.cnt) o 0)
    (c.living_entry.ensures ∙ ap (λ l. find (is_of c.in-Some.key) l) (sym (living-later c.self.inside.expire c.self.inside.clock c.args.moment later kept)))
    ∙ ap (λ o. option_map_or (λ key. cnt_of key (living c.self.inside.expire c.args.moment (living c.self.inside.expire c.self.inside.clock kept))) o 0) (sym c.in-Some.is ∙ c.key_of.ensures)
    ∙ ap (λ t. cnt_at (passed c.args.moment t) c.args.addr.now) c.self.view_is
