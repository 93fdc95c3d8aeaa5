use Rattle.std.proofs.Common.{◌≡◌, ◌+◌, ◌-◌, ◌++◌, ap, ◌∙◌, drop, append-nil, arith}
use Rattle.std.proofs.lemmas.List.{drop_all}
use Rattle.text_core.specs.Decimal.{decimal}
use Rattle.text_core.proofs.DecimalLemmas.{length-decimal-le, length-decimal_pairs, written_on}
use Rattle.text_core.proofs.decimal.put_digits.Goals as goal

pub loop-rest-init : goal.loop-rest-init
loop-rest-init c = record {
  room = length-decimal-le 20 c.args.number (omega arith) (omega (arith, c.ranges.number.fits));
  within = omega arith;
  written = ap (λ xs. decimal c.args.number ++ xs) (drop_all 20 c.args.digits.now (omega arith)) ∙ append-nil (decimal c.args.number);
}

pub overflow_sub-at : goal.overflow_sub-at
overflow_sub-at c = omega (arith, length-decimal_pairs c.loop-rest.rest c.loop-rest-test.true, c.loop-rest.invariant.room)

pub loop-rest-preserved : goal.loop-rest-preserved
loop-rest-preserved c =
    let l = c.loop-rest in
    let longer = length-decimal_pairs l.rest c.loop-rest-test.true in
    let back : l.at - 2 + 2 ≡ l.at = omega (arith, longer, l.invariant.room) in record {
      room = omega (arith, longer, l.invariant.room);
      within = omega (arith, l.invariant.within);
      written = written_on l.rest (drop l.at l.digits) (drop (l.at - 2) c.put_pair.new.digits) (decimal c.args.number) c.loop-rest-test.true (rw back at c.put_pair.ensures) l.invariant.written;
    }
