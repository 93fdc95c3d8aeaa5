use Rattle.text_core.proofs.PartLemmas.{first_line, last_line, nothing_left}
use Rattle.conf_text.proofs.cut.first_line.Goals as goal

pub returns-in-Some-clause-parts : goal.returns-in-Some-clause-parts
returns-in-Some-clause-parts c = first_line c.args.text.now c.in-Some.cut.0.now c.in-Some.cut.1.now c.in-Some.ensures.line

pub returns-in-None-clause-parts : goal.returns-in-None-clause-parts
returns-in-None-clause-parts c = rw (nothing_left c.args.text.now) (last_line c.args.text.now c.in-None.ensures.none c.requires)
