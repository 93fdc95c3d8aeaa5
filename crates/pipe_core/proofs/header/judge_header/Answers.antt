use Rattle.std.proofs.Common.{◌∙◌, ◌++◌, inr, take, arith}
use Rattle.device_core.proofs.StallLemmas.{unblocked_on}
use Rattle.pipe_core.proofs.JudgedLemmas.{has_offer}
use Rattle.pipe_core.proofs.StreamLemmas.{consumes-both}
use Rattle.pipe_core.proofs.header.judge_header.Goals as goal

pub loop-count-preserved : goal.loop-count-preserved
loop-count-preserved g c =
    let moved = rw c.in-Bytes.is at c.in_ok-count.ensures.moved in
    let before = c.loop-count.invariant in
    let reading = before.reading in
    record {
      reading = record {
        got = reading.got ++ take c.in-Bytes.count c.receive_piece.new.buffer;
        read = consumes-both _ _ _ reading.got (take c.in-Bytes.count c.receive_piece.new.buffer) reading.read moved.2;
        waits = rw c.in-Wait.is at (c.in_ok-judge_piece.ensures.decides c.args.core.now reading.got reading.waits);
      };
      room = c.in_ok-count.ensures.room ∙ before.room;
      reads = omega (arith, c.in_ok-count.ensures.no_more, before.reads);
      calls = omega (arith, c.in_ok-count.ensures.calls, c.in_ok-count.ensures.no_more, before.calls);
      failures = c.in_ok-count.ensures.failures ∙ before.failures;
      stalls = unblocked_on _ _ _ before.stalls (inr c.in_ok-count.ensures.stalls);
    }

pub returns-in-Offered-clause-ok : goal.returns-in-Offered-clause-ok
returns-in-Offered-clause-ok g c =
    let moved = rw c.in-Bytes.is at c.in_ok-count.ensures.moved in
    let reading = c.loop-count.invariant.reading in
    has_offer _ _ _ _ reading.got c.receive_piece.new.buffer c.in-Bytes.count c.in-Offered.send c.in-Offered.used reading.read moved.2 moved.1
    (rw c.in-Offered.is at c.in_ok-judge_piece.ensures.within)
    (rw c.in-Offered.is at (c.in_ok-judge_piece.ensures.decides c.args.core.now reading.got reading.waits))

pub returns-in-Refused-clause-ok : goal.returns-in-Refused-clause-ok
returns-in-Refused-clause-ok g c =
    let moved = rw c.in-Bytes.is at c.in_ok-count.ensures.moved in
    let reading = c.loop-count.invariant.reading in
    record {
      got = reading.got ++ take c.in-Bytes.count c.receive_piece.new.buffer;
      read = consumes-both _ _ _ reading.got (take c.in-Bytes.count c.receive_piece.new.buffer) reading.read moved.2;
      refuses = rw c.in-Refused.is at (c.in_ok-judge_piece.ensures.decides c.args.core.now reading.got reading.waits);
    }
