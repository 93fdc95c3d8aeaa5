use Rattle.std.proofs.Common.{◌≡◌, ◌-◌, ◌≤◌, length}
use Rattle.device_core.specs.Device.{raised_by}
use Rattle.device_core.specs.Patience.{IsUnblocked}
use Rattle.pipe_core.specs.Judged.{IsReading}
use Rattle.pipe_core.proofs.header.judge_header.Given as goal

abbrev pub invariant-loop-count : goal.invariant-loop-count
invariant-loop-count g l = record {
  reading : IsReading l.initial.core l.id l.core (g.I.Input.left l.initial.reader) (g.I.Input.left l.reader);
  room : length l.buffer ≡ length l.initial.buffer;
  reads : l.reads ≤ l.initial.reads;
  calls : g.I.Input.calls l.reader ≡ raised_by (l.initial.reads - l.reads) (g.I.Input.calls l.initial.reader);
  failures : g.I.Input.failures l.reader ≡ g.I.Input.failures l.initial.reader;
  stalls : IsUnblocked (g.I.Input.stalls l.initial.reader) (g.I.Input.stalls l.reader);
}

abbrev pub decreases-loop-count : goal.decreases-loop-count
decreases-loop-count g l = l.reads
