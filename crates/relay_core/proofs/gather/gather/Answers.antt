use Rattle.std.proofs.Common.{◌+◌, ◌∙◌, arith, refl, sym}
use Rattle.relay_core.proofs.Gathers.{asks-first, asks-on, consumes_more, stalls_some}
use Rattle.relay_core.proofs.Runs.{Consumes-nil}
use Rattle.relay_core.proofs.gather.gather.Goals as goal

pub loop-count-init : goal.loop-count-init
loop-count-init g c = record {
  within = omega arith;
  read = Consumes-nil (g.I.Input.left c.args.reader.now);
  calls = asks-first c.args.most c.args.limit (g.I.Input.calls c.args.reader.now) c.requires.most;
  failures = refl;
  stalls = refl;
}

pub returns-then-more-asked-clause-read : goal.returns-then-more-asked-clause-read
returns-then-more-asked-clause-read g c =
    let read = rw c.in-Ok-Bytes.field-0-is at c.in-Ok-Bytes.ensures in
    consumes_more (g.I.Input.left c.args.reader.now) (g.I.Input.left c.loop-count.reader) (g.I.Input.left c.read_front.new.reader)
    c.loop-count.count c.in-Ok-Bytes.more c.loop-count.piece c.read_front.new.piece _
    (omega arith) (omega (arith, read.answer.1)) c.loop-count.invariant.read read.read

pub loop-count-preserved : goal.loop-count-preserved
loop-count-preserved g c =
    let read = rw c.in-Ok-Bytes.field-0-is at c.in-Ok-Bytes.ensures in
    record {
      within = omega (arith, read.answer.1);
      read = consumes_more (g.I.Input.left c.args.reader.now) (g.I.Input.left c.loop-count.reader) (g.I.Input.left c.read_front.new.reader)
          c.loop-count.count c.in-Ok-Bytes.more c.loop-count.piece c.read_front.new.piece _
          (omega arith) (omega (arith, read.answer.1)) c.loop-count.invariant.read read.read;
      calls = asks-on c.args.most c.args.limit c.loop-count.count c.in-Ok-Bytes.more _ (g.I.Input.calls c.loop-count.reader) (g.I.Input.calls c.read_front.new.reader)
          c.loop-count.invariant.calls read.calls c.loop-count-test.true (omega (arith, read.answer.1)) read.answer.0;
      failures = read.failures ∙ c.loop-count.invariant.failures;
      stalls = read.stalls ∙ sym (stalls_some (c.loop-count.count + c.in-Ok-Bytes.more) _ (omega (arith, read.answer.0)));
    }
