use Rattle.std.proofs.Common.{◌≡◌, ◌&&◌, true, false, ap, sym, ◌∙◌}
use Rattle.plan_core.specs.Binds.{has_all_binds}
use Rattle.plan_core.proofs.BindLemmas.{both_ways}
use Rattle.plan_core.proofs.binds.same_binds.Goals as goal

pub returns-then-has_all_binds-clause-same : goal.returns-then-has_all_binds-clause-same
returns-then-has_all_binds-clause-same c =
    let one : has_all_binds c.args.a.now c.args.b.now ≡ true = sym c.has_all_binds.ensures ∙ c.if-has_all_binds.true in
    both_ways c.args.a.now c.args.b.now c.has_all_binds-then-has_all_binds.result
    (c.has_all_binds-then-has_all_binds.ensures ∙ ap (λ b. b && has_all_binds c.args.b.now c.args.a.now) (sym one))

pub returns-else-has_all_binds-clause-same : goal.returns-else-has_all_binds-clause-same
returns-else-has_all_binds-clause-same c =
    let one : has_all_binds c.args.a.now c.args.b.now ≡ false = sym c.has_all_binds.ensures ∙ c.if-has_all_binds.false in
    both_ways c.args.a.now c.args.b.now c.has_all_binds.result (c.if-has_all_binds.false ∙ ap (λ b. b && has_all_binds c.args.b.now c.args.a.now) (sym one))
