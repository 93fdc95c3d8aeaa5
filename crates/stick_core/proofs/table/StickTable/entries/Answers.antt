use Rattle.std.proofs.Common.{◌≡◌, ◌≤◌, List, sym, ap, subst, ◌∙◌, arith}
use Rattle.std.specs.Prelude.{IfOk}
use Rattle.stick_core.specs.declared.entries.StickEntry.{StickEntry}
use Rattle.stick_core.specs.Entries.{living}
use Rattle.stick_core.specs.PlainEntries.{plain}
use Rattle.stick_core.proofs.LivingLemmas.{living-later}
use Rattle.stick_core.proofs.table.StickTable.entries.Goals as goal

pub returns : goal.returns
returns c =
    let same = ap (λ t. t.clock) c.self.view_is in
    let later : c.self.inside.clock ≤ c.args.moment = omega (arith, same, c.requires) in
    let P : List StickEntry → Type 0 = λ l. IfOk c.listed.result (λ list. list ≡ plain l) in
    subst P
    (sym (living-later c.self.inside.expire c.self.inside.clock c.args.moment later c.self.inside.touched.entries) ∙ ap (λ t. living t.expire c.args.moment t.entries) c.self.view_is)
    c.listed.ensures
