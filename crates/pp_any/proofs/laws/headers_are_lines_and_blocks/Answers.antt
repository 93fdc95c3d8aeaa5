use Rattle.pp_any.proofs.Lines.{header_is, header_of_either}
use Rattle.pp_any.proofs.laws.headers_are_lines_and_blocks.Goals as goal

pub returns : goal.returns
returns c = λ b meaning. (header_is b meaning, header_of_either b meaning)
