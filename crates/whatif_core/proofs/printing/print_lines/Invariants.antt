use Rattle.std.proofs.Common.{◌≡◌, ℕ, ◌-◌, List, Some}
use Rattle.audit_core.specs.Standing.{Reaches}
use Rattle.audit_core.specs.declared.fault.TheConstants.{MOST_RECORD_LINES}
use Rattle.whatif_core.specs.Noting.{noted_in, Writes}
use Rattle.replay_core.proofs.Devices.{StillReads, StillWrites}
use Rattle.whatif_core.proofs.printing.print_lines.Given as goal

abbrev pub invariant-loop-twin : goal.invariant-loop-twin
invariant-loop-twin g l = record {
  reader : StillReads g.I.Input.calls g.I.Input.failures g.I.Input.stalls l.initial.reader l.reader l.lines.reads;
  writer : StillWrites g.O.Output.failures g.O.Output.stalls l.initial.writer l.writer;
  reaches : (text : List ℕ) → g.I.Input.left l.initial.reader ≡ Some text →
      Reaches l.initial.twin.checked text (g.I.Input.left l.reader) l.twin.checked l.lines.kept;
  wrote : (text sent : List ℕ) → g.I.Input.left l.initial.reader ≡ Some text → g.O.Output.held l.initial.writer ≡ Some sent →
      Writes sent (noted_in l.initial.journal) l.initial.twin text (g.I.Input.left l.reader) (g.O.Output.held l.writer) (noted_in l.journal) l.twin l.lines.kept;
}

abbrev pub decreases-loop-twin : goal.decreases-loop-twin
decreases-loop-twin g l = MOST_RECORD_LINES - l.twin.checked.lines
