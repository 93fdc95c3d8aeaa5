use Rattle.std.proofs.Common.{ap, sym, ◌∙◌}
use Rattle.std.specs.Prelude.{◌==◌}
use Rattle.plan_types.specs.Sound.{IsSoundPlan}
use Rattle.conn_model.specs.Answer.{frontend_in}
use Rattle.conn_model.proofs.Lists.{all-found}
use Rattle.conn_core.proofs.receiving.can_judge.Goals as goal

pub frontend_near-requires : goal.frontend_near-requires
frontend_near-requires c =
    let version = c.in-Some-version.version.now in
    (all-found (λ version. IsSoundPlan version.plan) (λ version. version.number == c.args.version) c.args.rows.now.versions version c.requires (sym c.in-Some-version.ensures)).0

pub returns-in-Some-frontend_near-clause-yes : goal.returns-in-Some-frontend_near-clause-yes
returns-in-Some-frontend_near-clause-yes c = λ yes. record {
  own = c.in-Some.ensures.some.0;
  version = c.in-Some-version.version.now;
  frontend = c.in-Some-frontend_near.field-0.now;
  there = c.in-Some.ensures.some.1;
  kept = sym c.in-Some-version.ensures;
  found = sym (c.in-Some-frontend_near.ensures ∙ ap (λ n. frontend_in c.in-Some-version.version.now.plan n) c.in-Some.ensures.some.2.name);
}
