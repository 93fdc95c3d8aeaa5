use Rattle.std.proofs.Common.{◌∙◌, subst, arith}
use Rattle.std.proofs.lemmas.Result.{on_err_weaker, on_ok_weaker}
use Rattle.std.specs.Io.KnownBytes.{Appends}
use Rattle.device_core.proofs.StallLemmas.{unblocked_on}
use Rattle.audit_core.specs.Recording.{AppendsFront}
use Rattle.audit_core.proofs.RecordingLemmas.{all_written, block_front, record_front, written_front, written_record}
use Rattle.audit_core.proofs.WriteLemmas.{on_err_always}
use Rattle.audit_core.proofs.recording.write_through.Goals as goal

pub loop-record-preserved : goal.loop-record-preserved
loop-record-preserved g c =
    let before = c.loop-record.invariant in
    record {
      written =
          written_record _ _ _ c.loop-record.buffer.items c.write_record.new.out.items _ c.loop-record.record-index c.args.records.now c.record-item.result before.written
          c.loop-record-test.true c.record-item.is c.in-Ok.ensures c.in_ok-send_block-in-Ok.ensures.ok;
      failures = c.in_ok-send_block-in-Ok.ensures.failures ∙ before.failures;
      stalls = unblocked_on _ _ _ before.stalls c.in_ok-send_block-in-Ok.ensures.stalls;
    }

pub returns-in-Err-clause-front : goal.returns-in-Err-clause-front
returns-in-Err-clause-front g c = written_front _ _ c.loop-record.buffer.items c.loop-record.record-index c.args.records.now c.loop-record.invariant.written

pub returns-in_err-send_block-in-Ok-clause-front : goal.returns-in_err-send_block-in-Ok-clause-front
returns-in_err-send_block-in-Ok-clause-front g c =
    on_err_always c.from_residual.result
    (record_front _ _ _ c.loop-record.buffer.items c.write_record.new.out.items c.loop-record.record-index c.args.records.now c.record-item.result c.loop-record.invariant.written
    c.loop-record-test.true c.record-item.is c.in-Ok.ensures c.in_err-send_block-in-Ok.ensures.front)

pub returns-clause-front : goal.returns-clause-front
returns-clause-front g c =
    on_err_weaker c.write_block.result
    (λ part. block_front _ _ _ c.loop-record.buffer.items c.loop-record.record-index c.args.records.now c.loop-record.invariant.written
    (subst (AppendsFront _ _) c.as_slice.ensures.value part))
    c.write_block.ensures.front

pub returns-clause-ok : goal.returns-clause-ok
returns-clause-ok g c =
    on_ok_weaker c.write_block.result
    (λ added. all_written _ _ _ c.loop-record.buffer.items c.args.records.now c.loop-record.record-index c.loop-record.invariant.written (omega arith)
    (subst (Appends _ _) c.as_slice.ensures.value added))
    c.write_block.ensures.ok
