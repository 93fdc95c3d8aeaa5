use Rattle.std.proofs.Common.{◌∙◌, sym, arith}
use Rattle.text_core.proofs.DecimalLemmas.{past_at_digit}
use Rattle.text_core.proofs.decimal.number_up_to.Goals as goal

pub returns-in_err-number : goal.returns-in_err-number
returns-in_err-number c =
    c.from_residual.ensures
    ∙ sym (past_at_digit c.args.digits.now c.loop-digit.digit-index c.loop-digit.number c.args.most c.loop-digit.invariant.0 (omega arith)
    (sym c.with_digit.ensures ∙ c.in_err-number.was))
