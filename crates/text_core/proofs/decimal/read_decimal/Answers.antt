use Rattle.std.proofs.Common.{◌∙◌, sym}
use Rattle.text_core.proofs.DecimalLemmas.{decimal-decimal_of, decimal_of_written}
use Rattle.text_core.proofs.decimal.read_decimal.Goals as goal

pub returns-clause-own_text : goal.returns-clause-own_text
returns-clause-own_text c = λ number le. (
  λ is. (decimal-decimal_of c.args.text.now c.args.most number (sym c.number_of.ensures ∙ is)).0,
  λ is. c.number_of.ensures ∙ decimal_of_written c.args.text.now c.args.most number le is,
)
