use Rattle.std.proofs.Common.{◌≡◌, Some, sym, ap, ◌∙◌}
use Rattle.std.specs.Prelude.{◌==◌}
use Rattle.std.specs.Option.{option_copied}
use Rattle.plan_types.specs.Sound.{IsSoundPlan}
use Rattle.conn_model.specs.Answer.{version_at}
use Rattle.conn_model.proofs.Lists.{all-found}
use Rattle.conn_rows.proofs.row.plan_at.Goals as goal

pub returns-clause-lines : goal.returns-clause-lines
returns-clause-lines c =
    let version = c.in_ok-version.version.now in
    let there : version_at c.args.versions.now c.args.number ≡ Some version = sym c.version_at.ensures ∙ ap option_copied c.in_ok-version.was in
    (all-found (λ v. IsSoundPlan v.plan) (λ v. v.number == c.args.number) c.args.versions.now version c.requires there).0.lines
