use Rattle.std.proofs.Common.{◌∙◌, ap}
use Rattle.pp_v1.specs.Line.{line_meaning}
use Rattle.pp_v1.proofs.WrittenLemmas.{line_meaning-line_of}
use Rattle.pp_v1.proofs.writing.write_v1.Goals as goal

pub returns-clause-read_again : goal.returns-clause-read_again
returns-clause-read_again c = ap line_meaning c.line_text.ensures.line ∙ line_meaning-line_of c.args.pair.now c.line_text.ensures.in_range
