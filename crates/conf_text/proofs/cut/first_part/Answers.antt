use Rattle.conf_text.specs.Parts.{is_blank}
use Rattle.text_core.proofs.PartLemmas.{nothing_left, part_found, part_last}
use Rattle.conf_text.proofs.cut.first_part.Goals as goal

pub returns-in-Some-clause-parts : goal.returns-in-Some-clause-parts
returns-in-Some-clause-parts c =
    let found = c.in-Some.ensures in part_found is_blank c.args.text.now c.in-Some.at found.0.high found.0.before found.1

pub returns-in-None-clause-parts : goal.returns-in-None-clause-parts
returns-in-None-clause-parts c = rw (nothing_left c.args.text.now) (part_last is_blank c.args.text.now c.requires c.in-None.ensures)
