use Rattle.std.proofs.Common.{◌∙◌, ap, sym}
use Rattle.std.specs.Option.{option_copied}
use Rattle.plan_types.specs.Sound.{IsSoundPlan}
use Rattle.conn_model.proofs.TableSteps.{newest-all}
use Rattle.conn_core.proofs.machine.Core.checked_numbers.Goals as goal

pub numbers_in-requires : goal.numbers_in-requires
numbers_in-requires c = newest-all (λ version. IsSoundPlan version.plan) c.self.inside.rows.versions c.in_ok-version.version.now c.newest.ensures.sound (sym c.newest.ensures.newest ∙ ap option_copied c.in_ok-version.was)
