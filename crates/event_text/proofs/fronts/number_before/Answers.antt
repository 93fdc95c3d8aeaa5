use Rattle.std.proofs.Common.{arith, sym, ◌∙◌, ◌≤◌}
use Rattle.event_text.proofs.FrontLemmas.{number_found, one_digit_fits}
use Rattle.event_text.proofs.fronts.number_before.Goals as goal

pub returns-then-byte-mark : goal.returns-then-byte-mark
returns-then-byte-mark c =
    let l = c.loop-at in
    number_found c.args.text.now l.at l.number c.args.mark (omega (arith, c.loop-at-test.true, c.min-at-end.ensures)) (omega (arith, c.if-at-eq0.false))
    c.if-byte-mark.true l.invariant.digits (sym c.has_leading_zero.ensures ∙ c.if-has_leading_zero.false) l.invariant.number

pub overflow_mul-number : goal.overflow_mul-number
overflow_mul-number c =
    let small = one_digit_fits c.loop-at.at c.loop-at.number 9 (omega (arith, c.loop-at-test.true, c.min-at-end.ensures)) c.loop-at.invariant.small (omega arith) in
    omega (arith, small)

pub overflow_add-number : goal.overflow_add-number
overflow_add-number c =
    let digit : c.from.result ≤ 9 = omega (arith, c.from.ensures, c.if-not-is_ascii_digit.ensures) in
    omega (arith, one_digit_fits c.loop-at.at c.loop-at.number c.from.result (omega (arith, c.loop-at-test.true, c.min-at-end.ensures)) c.loop-at.invariant.small digit)
