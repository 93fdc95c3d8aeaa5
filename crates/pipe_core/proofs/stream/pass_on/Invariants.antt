use Rattle.std.proofs.Common.{◌≡◌, ◌+◌, ◌*◌, ◌-◌, ◌≤◌, ◌<◌, ◌^◌, length}
use Rattle.device_core.specs.Device.{raised_by}
use Rattle.device_core.specs.Patience.{IsUnblocked}
use Rattle.pipe_core.specs.Stream.{Carried}
use Rattle.pipe_core.proofs.stream.pass_on.Given as goal

abbrev pub invariant-loop-count : goal.invariant-loop-count
invariant-loop-count g l = record {
  carried : Carried (g.I.Input.left l.initial.reader) (g.I.Input.left l.reader) (g.O.Output.held l.initial.writer) (g.O.Output.held l.writer) l.before l.written;
  room : length l.buffer ≡ length l.initial.buffer;
  fits : l.written + l.reads * length l.initial.buffer < 2 ^ 64;
  reads : l.reads ≤ l.initial.reads;
  calls : g.I.Input.calls l.reader ≡ raised_by (l.initial.reads - l.reads) (g.I.Input.calls l.initial.reader);
  failures : g.I.Input.failures l.reader ≡ g.I.Input.failures l.initial.reader;
  stalls : IsUnblocked (g.I.Input.stalls l.initial.reader) (g.I.Input.stalls l.reader);
  writes : g.O.Output.failures l.writer ≡ g.O.Output.failures l.initial.writer;
  write_stalls : IsUnblocked (g.O.Output.stalls l.initial.writer) (g.O.Output.stalls l.writer);
}

abbrev pub decreases-loop-count : goal.decreases-loop-count
decreases-loop-count g l = l.reads
