use Rattle.text_core.specs.Parts.{is_line_feed}
use Rattle.text_core.proofs.PartLemmas.{first_part, no_part}
use Rattle.text_core.proofs.parts.cut_line.Goals as goal

pub returns-in-Some-clause-line : goal.returns-in-Some-clause-line
returns-in-Some-clause-line c =
    let found = c.in-Some.ensures in first_part is_line_feed c.args.text.now c.in-Some.at found.0.high found.0.before found.1

pub returns-in-None-clause-none : goal.returns-in-None-clause-none
returns-in-None-clause-none c = no_part is_line_feed c.args.text.now c.in-None.ensures
