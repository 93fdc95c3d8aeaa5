use Rattle.std.proofs.Common.{◌≡◌, ◌-◌, ◌≤◌}
use Rattle.device_core.specs.Device.{raised_by}
use Rattle.device_core.specs.Patience.{IsUnblocked}
use Rattle.line_reader.specs.Lines.{Gathers}
use Rattle.text_core.specs.Parts.{IsUnended}
use Rattle.line_reader.proofs.lines.LineReader.advance.Given as goal

abbrev pub invariant-loop-self : goal.invariant-loop-self
invariant-loop-self g l = record {
  unended : IsUnended l.self.line;
  gathers : Gathers l.fn.self l.self (g.I.Input.left l.initial.reader) (g.I.Input.left l.reader);
  calls : g.I.Input.calls l.reader ≡ raised_by (l.fn.self.reads - l.self.reads) (g.I.Input.calls l.initial.reader);
  reads : l.self.reads ≤ l.fn.self.reads;
  failures : g.I.Input.failures l.reader ≡ g.I.Input.failures l.initial.reader;
  stalls : IsUnblocked (g.I.Input.stalls l.initial.reader) (g.I.Input.stalls l.reader);
}

abbrev pub decreases-loop-self : goal.decreases-loop-self
decreases-loop-self g l = l.self.reads
