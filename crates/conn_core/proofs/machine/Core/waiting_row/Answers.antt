use Rattle.std.proofs.Common.{◌≡◌, Bool, true, false, not, refl, sym, ap, ◌∙◌}
use Rattle.std.specs.Prelude.{option_map}
use Rattle.conn_model.specs.Answer.{row_at}
use Rattle.conn_rows.specs.Summaries.{summary_of}
use Rattle.conn_core.proofs.RowLemmas.{waits_is}
use Rattle.conn_core.proofs.machine.Core.waiting_row.Goals as goal

true_of : (b : Bool) → not b ≡ false → b ≡ true
true_of true is = refl
true_of false is = absurd (let wrong : true ≡ false = is in cc)

pub returns-clause-ok : goal.returns-clause-ok
returns-clause-ok c =
    waits_is c.args.self.now.frontends c.args.id c.in-Some.row
    (ap (λ p. option_map summary_of (row_at p.frontends c.args.id)) (sym c.self.view_is) ∙ sym c.row.ensures ∙ c.in-Some.is) (true_of c.in-Some.row.waits c.if-not-row.false)
