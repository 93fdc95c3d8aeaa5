use Rattle.std.proofs.Common.{◌≡◌, ◌+◌, ◌-◌, ap, length, refl, arith}
use Rattle.std.proofs.lemmas.List.{drop-set}
use Rattle.text_core.proofs.DecimalLemmas.{are_digits_decimal, decimal_pair, decimal_small}
use Rattle.text_core.proofs.decimal.put_first.Goals as goal

pub overflow_sub-digits : goal.overflow_sub-digits
overflow_sub-digits c = omega (arith, (are_digits_decimal c.args.first).some, c.requires.room)

pub overflow_sub-result : goal.overflow_sub-result
overflow_sub-result c = omega (arith, (are_digits_decimal c.args.first).some, c.requires.room)

pub returns-then-first-lt10-clause-written : goal.returns-then-first-lt10-clause-written
returns-then-first-lt10-clause-written c =
    let some = (are_digits_decimal c.args.first).some in
    let e : c.args.end - 1 + 1 ≡ c.args.end = omega (arith, some, c.requires.room) in
    rw (drop-set c.args.digits.now (c.args.end - 1) (48 + c.args.first) (omega (arith, some, c.requires.room, c.requires.end)), e, decimal_small c.args.first c.if-first-lt10.true) refl

pub overflow_sub-end : goal.overflow_sub-end
overflow_sub-end c = omega (arith, ap length (decimal_pair c.args.first c.if-first-lt10.false c.requires.first), c.requires.room)

pub overflow_sub-result-2 : goal.overflow_sub-result-2
overflow_sub-result-2 c = omega (arith, ap length (decimal_pair c.args.first c.if-first-lt10.false c.requires.first), c.requires.room)

pub returns-clause-written : goal.returns-clause-written
returns-clause-written c =
    let pair = decimal_pair c.args.first c.if-first-lt10.false c.requires.first in
    let e : c.args.end - 2 + 2 ≡ c.args.end = omega (arith, ap length pair, c.requires.room) in
    rw (c.put_pair.ensures, e, pair) refl
