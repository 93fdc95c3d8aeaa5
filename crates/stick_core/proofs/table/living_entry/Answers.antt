use Rattle.std.proofs.Common.{sym, ◌∙◌}
use Rattle.stick_core.proofs.LivingLemmas.{living-found, living-lost, living-none}
use Rattle.stick_core.proofs.table.living_entry.Goals as goal

pub returns-then-is_gone : goal.returns-then-is_gone
returns-then-is_gone c =
    sym (living-lost c.args.expire c.args.moment c.args.key.now c.args.touched.now.entries c.in-Some.entry c.requires (sym c.in-Some.ensures) (sym c.is_gone.ensures ∙ c.if-is_gone.true))

pub returns-else-is_gone : goal.returns-else-is_gone
returns-else-is_gone c =
    sym (living-found c.args.expire c.args.moment c.args.key.now c.args.touched.now.entries c.in-Some.entry (sym c.in-Some.ensures) (sym c.is_gone.ensures ∙ c.if-is_gone.false))

pub returns-in-None : goal.returns-in-None
returns-in-None c = sym (living-none c.args.expire c.args.moment c.args.key.now c.args.touched.now.entries (sym c.in-None.ensures))
