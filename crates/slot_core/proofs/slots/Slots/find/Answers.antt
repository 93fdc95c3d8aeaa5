use Rattle.std.proofs.Common.{◌≡◌, ◌<◌, length, Some, ap, sym, ◌∙◌, subst}
use Rattle.std.specs.Prelude.{slice_get}
use Rattle.std.proofs.lemmas.Option.{slice_get-get_or}
use Rattle.slot_core.specs.Counts.{IdentitiesDiffer}
use Rattle.slot_core.proofs.CountLemmas.{position_only}
use Rattle.slot_core.proofs.slots.Slots.find.Goals as goal

-- No other place is of the server.
pub returns-in-Some : goal.returns-in-Some
returns-in-Some c =
    let look = c.in-Some.ensures.lookup in
    let low : c.args.guess < length c.deref.result.now = look.3.0 in
    let there : slice_get c.args.self.now c.args.guess ≡ Some c.in-Some.count.now =
    ap (λ counts. slice_get counts c.args.guess) (sym (c.deref.ensures.value ∙ c.self.view_is))
    ∙ slice_get-get_or c.deref.result.now c.args.guess c.in-Some.count.now low ∙ ap Some (sym look.1) in
    sym (position_only c.args.identity.now c.args.self.now c.args.guess c.in-Some.count.now (subst IdentitiesDiffer c.self.view_is c.self.invariant.apart) there
    (sym c.is_same.ensures.value ∙ c.if-is_same.true))
