use Rattle.std.proofs.Common.{◌≡◌, ℕ, ◌-◌, List, Some}
use Rattle.audit_core.specs.Printing.{noted_in, Writes}
use Rattle.audit_core.specs.Standing.{Reaches}
use Rattle.audit_core.specs.declared.fault.TheConstants.{MOST_RECORD_LINES}
use Rattle.replay_core.proofs.Devices.{StillReads, StillWrites}
use Rattle.audit_core.proofs.printing.print_lines.Given as goal

abbrev pub invariant-loop-auditor : goal.invariant-loop-auditor
invariant-loop-auditor g l = record {
  reader : StillReads g.I.Input.calls g.I.Input.failures g.I.Input.stalls l.initial.reader l.reader l.lines.reads;
  writer : StillWrites g.O.Output.failures g.O.Output.stalls l.initial.writer l.writer;
  reaches : (text : List ℕ) → g.I.Input.left l.initial.reader ≡ Some text →
      Reaches l.initial.auditor text (g.I.Input.left l.reader) l.auditor l.lines.kept;
  wrote : (text sent : List ℕ) → g.I.Input.left l.initial.reader ≡ Some text → g.O.Output.held l.initial.writer ≡ Some sent →
      Writes sent (noted_in l.initial.journal) l.initial.auditor text (g.I.Input.left l.reader) (g.O.Output.held l.writer) (noted_in l.journal) l.auditor l.lines.kept;
}

abbrev pub decreases-loop-auditor : goal.decreases-loop-auditor
decreases-loop-auditor g l = MOST_RECORD_LINES - l.auditor.lines
