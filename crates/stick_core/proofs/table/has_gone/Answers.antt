use Rattle.std.proofs.Common.{false, ap, ◌∙◌}
use Rattle.std.specs.Option.{option_map_or}
use Rattle.stick_core.specs.Entries.{is_gone}
use Rattle.stick_core.proofs.LivingLemmas.{first-gone}
use Rattle.stick_core.proofs.table.has_gone.Goals as goal

pub returns-in-Some : goal.returns-in-Some
returns-in-Some c =
    c.is_gone.ensures ∙ ap (λ o. option_map_or (is_gone c.args.expire c.args.moment) o false) c.in-Some.ensures
    ∙ first-gone c.args.expire c.args.moment c.args.touched.now.entries c.requires.rise

pub returns-in-None : goal.returns-in-None
returns-in-None c =
    ap (λ o. option_map_or (is_gone c.args.expire c.args.moment) o false) c.in-None.ensures
    ∙ first-gone c.args.expire c.args.moment c.args.touched.now.entries c.requires.rise
