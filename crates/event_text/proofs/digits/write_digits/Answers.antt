use Rattle.event_text.proofs.DigitLemmas.{digits_end, digits_on}
use Rattle.event_text.proofs.digits.write_digits.Goals as goal

pub loop-byte-preserved : goal.loop-byte-preserved
loop-byte-preserved c =
    rw (c.in_ok-write_pair.ensures) (digits_on c.loop-byte.out.items c.args.bytes.now _ c.loop-byte.byte-index c.loop-byte-test.true c.loop-byte.invariant)

pub returns : goal.returns
returns c = digits_end c.loop-byte.out.items c.args.bytes.now _ c.loop-byte.byte-index c.loop-byte-test.false c.loop-byte.invariant
