use Rattle.std.proofs.Common.{◌≡◌, take}
use Rattle.device_core.specs.Patience.{IsUnblocked}
use Rattle.audit_core.specs.Recording.{records_text, Written}
use Rattle.audit_core.proofs.recording.write_through.Given as goal

abbrev pub invariant-loop-record : goal.invariant-loop-record
invariant-loop-record g l = record {
  written : Written (g.W.Output.held l.initial.writer) (g.W.Output.held l.writer) l.buffer.items (records_text (take l.record-index l.records));
  failures : g.W.Output.failures l.writer ≡ g.W.Output.failures l.initial.writer;
  stalls : IsUnblocked (g.W.Output.stalls l.initial.writer) (g.W.Output.stalls l.writer);
}
