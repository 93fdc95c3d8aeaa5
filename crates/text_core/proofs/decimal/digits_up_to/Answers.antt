use Rattle.std.proofs.Common.{◌∙◌, sym, arith}
use Rattle.text_core.proofs.DecimalLemmas.{stops_at_byte}
use Rattle.text_core.proofs.decimal.digits_up_to.Goals as goal

pub returns-in_err-number : goal.returns-in_err-number
returns-in_err-number c =
    c.from_residual.ensures
    ∙ sym (stops_at_byte c.args.text.now c.loop-byte.byte-index c.loop-byte.number c.args.most c.loop-byte.invariant.number (omega arith)
    (sym c.with_digit_of.ensures ∙ c.in_err-number.was))
