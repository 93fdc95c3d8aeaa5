use Rattle.std.proofs.Common.{◌∙◌, inr, arith, take}
use Rattle.std.proofs.lemmas.Result.{err_from_is_err_and}
use Rattle.device_core.proofs.StallLemmas.{unblocked_on}
use Rattle.pipe_core.proofs.StreamLemmas.{carried-end, carried-more, dropped-more, dropped-none, fits_on, read_out}
use Rattle.pipe_core.proofs.stream.pass_on.Goals as goal

pub returns-in_err-receive-clause-err : goal.returns-in_err-receive-clause-err
returns-in_err-receive-clause-err g c =
    let p = err_from_is_err_and c.from_residual.result c.from_residual.ensures.1 in
    rw p.1 (dropped-none _ _ _ _ _ _ (carried-end _ _ _ _ _ _ _ c.loop-count.invariant.carried c.in_err-receive.ensures.moved))

pub returns-in-End-clause-ok : goal.returns-in-End-clause-ok
returns-in-End-clause-ok g c =
    let moved = rw c.in-End.is at c.in_ok-receive.ensures.moved in
    carried-end _ _ _ _ _ _ _ c.loop-count.invariant.carried moved.1

pub returns-in-End-clause-all : goal.returns-in-End-clause-all
returns-in-End-clause-all g c =
    let moved = rw c.in-End.is at c.in_ok-receive.ensures.moved in
    read_out _ _ _ _ c.loop-count.invariant.carried.read moved.0 moved.1

pub returns-in_err-send-in-Bytes-clause-err : goal.returns-in_err-send-in-Bytes-clause-err
returns-in_err-send-in-Bytes-clause-err g c =
    let p = err_from_is_err_and c.from_residual-in_err-send-in-Bytes.result c.from_residual-in_err-send-in-Bytes.ensures.1 in
    let moved = rw c.in-Bytes.is at c.in_ok-receive.ensures.moved in
    rw p.1 (dropped-more _ _ _ _ _ _ _ _ (take c.in-Bytes.count c.receive.new.buffer) c.loop-count.invariant.carried moved.2 c.in_err-send-in-Bytes.ensures.err)

pub loop-count-preserved : goal.loop-count-preserved
loop-count-preserved g c =
    let moved = rw c.in-Bytes.is at c.in_ok-receive.ensures.moved in
    let before = c.loop-count.invariant in
    record {
      carried = carried-more _ _ _ _ _ _ _ _ c.in-Bytes.count c.receive.new.buffer before.carried moved.1 moved.2 c.in_ok-send-in-Bytes.ensures.ok;
      room = c.in_ok-receive.ensures.room ∙ before.room;
      fits = fits_on c.loop-count.written c.in-Bytes.count c.loop-count.reads c.receive.new.reads _ before.fits c.in_ok-receive.ensures.fewer (omega (arith, moved.1, c.in_ok-receive.ensures.room, before.room));
      reads = omega (arith, c.in_ok-receive.ensures.no_more, before.reads);
      calls = omega (arith, c.in_ok-receive.ensures.calls, c.in_ok-receive.ensures.no_more, before.calls);
      failures = c.in_ok-receive.ensures.failures ∙ before.failures;
      stalls = unblocked_on _ _ _ before.stalls (inr c.in_ok-receive.ensures.stalls);
      writes = c.in_ok-send-in-Bytes.ensures.failures ∙ before.writes;
      write_stalls = unblocked_on _ _ _ before.write_stalls c.in_ok-send-in-Bytes.ensures.stalls;
    }
