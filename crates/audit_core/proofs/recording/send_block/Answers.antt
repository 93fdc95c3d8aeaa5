use Rattle.audit_core.proofs.RecordingLemmas.{written_sent}
use Rattle.audit_core.proofs.recording.send_block.Goals as goal

pub returns-in-Ok-clause-ok : goal.returns-in-Ok-clause-ok
returns-in-Ok-clause-ok g c = written_sent _ _ c.as_slice.result.now c.args.block.now.items _ c.as_slice.ensures.value c.clear.ensures.items c.in-Ok.ensures.ok
