use Rattle.std.proofs.Common.{length, ap, sym, ◌∙◌, arith}
use Rattle.stick_core.proofs.LivingLemmas.{length-living, living-for_ever}
use Rattle.stick_core.proofs.table.StickTable.in_memory.Goals as goal

pub returns-clause-least : goal.returns-clause-least
returns-clause-least c =
    let few = length-living c.self.inside.expire c.self.inside.clock c.self.inside.touched.entries in
    let all = c.len.ensures in
    rw (← c.self.view_is) (omega (arith, few, all))

pub returns-clause-most : goal.returns-clause-most
returns-clause-most c =
    let fits = c.self.invariant.0.fits in
    let all = c.len.ensures in
    rw (← c.self.view_is) (omega (arith, fits, all))

pub returns-clause-exact : goal.returns-clause-exact
returns-clause-exact c =
    rw (← c.self.view_is) (λ never. c.len.ensures ∙ ap length (sym (living-for_ever c.self.inside.expire c.self.inside.clock c.self.inside.touched.entries never)))
