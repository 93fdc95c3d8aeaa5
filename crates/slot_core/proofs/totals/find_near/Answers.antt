use Rattle.std.proofs.Common.{◌≡◌, true, Some, refl, length, sym, ◌∙◌}
use Rattle.std.specs.Prelude.{slice_get}
use Rattle.std.proofs.lemmas.Option.{slice_get_read}
use Rattle.slot_core.specs.Totals.{has_name}
use Rattle.slot_core.proofs.TotalLemmas.{name_only}
use Rattle.slot_core.proofs.totals.find_near.Goals as goal

pub returns-in-Some : goal.returns-in-Some
returns-in-Some c =
    let totals = c.args.totals.now in
    let total = c.in-Some.total.now in
    let at = c.in-Some.ensures.lookup in
    let there : slice_get totals c.args.guess ≡ Some total = slice_get_read totals (length totals) c.args.guess total refl at.3.0 at.1 in
    let is : has_name c.args.name.now total ≡ true = sym c.is_named.ensures ∙ c.if-is_named.true in
    sym (name_only c.args.name.now totals c.args.guess total c.requires there is)
