use Rattle.std.proofs.Common.{arith, length, length-append, append_assoc, ap, sym, ◌∙◌, ◌+◌, ◌++◌, ◌∷◌, [], ◌/◌, ◌%◌}
use Rattle.text_core.specs.Decimal.{decimal}
use Rattle.text_core.proofs.DecimalLemmas.{decimal_small, decimal_step, length-decimal_step}
use Rattle.text_core.proofs.decimal.+push_digits.Goals as goal

pub push_digit-requires-clause-room : goal.push_digit-requires-clause-room
push_digit-requires-clause-room t c = omega (arith, ap length (decimal_small c.args.number c.if-number-lt10.true))

pub returns-then-number-lt10 : goal.returns-then-number-lt10
returns-then-number-lt10 t c = c.push_digit.ensures ∙ ap (λ digits. c.args.text.now.bytes ++ digits) (sym (decimal_small c.args.number c.if-number-lt10.true))

pub push_digits-requires : goal.push_digits-requires
push_digits-requires t c = (omega (arith, c.decreases), omega (arith, length-decimal_step c.args.number c.if-number-lt10.false))

pub push_digit-requires-2-clause-room : goal.push_digit-requires-2-clause-room
push_digit-requires-2-clause-room t c =
    omega (arith, length-decimal_step c.args.number c.if-number-lt10.false, ap length c.push_digits.ensures, length-append c.args.text.now.bytes (decimal (c.args.number / 10)))

pub returns : goal.returns
returns t c =
    c.push_digit-2.ensures ∙ rw (c.push_digits.ensures, decimal_step c.args.number c.if-number-lt10.false)
    (append_assoc c.args.text.now.bytes (decimal (c.args.number / 10)) ((48 + c.args.number % 10) ∷ []))
