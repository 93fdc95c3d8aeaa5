use Rattle.std.proofs.Common.{◌++◌, ap, sym, ◌∙◌}
use Rattle.text_core.proofs.DecimalLemmas.{decimal_pair, decimal_small}
use Rattle.text_core.proofs.decimal.push_first.Goals as goal

pub returns-then-first-lt10-clause-text : goal.returns-then-first-lt10-clause-text
returns-then-first-lt10-clause-text g c =
    c.push.ensures.items ∙ ap (λ digits. c.args.text.now.items ++ digits) (sym (decimal_small c.args.first c.if-first-lt10.true))

pub returns-clause-text : goal.returns-clause-text
returns-clause-text g c =
    c.push_pair.ensures ∙ ap (λ digits. c.args.text.now.items ++ digits) (sym (decimal_pair c.args.first c.if-first-lt10.false c.requires.first))
