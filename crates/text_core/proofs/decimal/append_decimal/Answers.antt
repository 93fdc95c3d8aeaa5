use Rattle.std.proofs.Common.{arith}
use Rattle.std.proofs.lemmas.Grind.{common_steps}
use Rattle.text_core.proofs.DecimalLemmas.{decimal_pair, decimal_small}
use Rattle.text_core.proofs.decimal.append_decimal.Goals as goal

pub returns-then-number-lt10 : goal.returns-then-number-lt10
returns-then-number-lt10 c = rw (decimal_small c.args.number c.if-number-lt10.true) (grind (arith, common_steps))

pub returns-then-number-lt100 : goal.returns-then-number-lt100
returns-then-number-lt100 c = rw (decimal_pair c.args.number c.if-number-lt10.false c.if-number-lt100.true) c.append_pair.ensures
