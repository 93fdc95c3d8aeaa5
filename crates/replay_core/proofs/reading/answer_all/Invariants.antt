use Rattle.std.proofs.Common.{◌≡◌, ℕ, ◌-◌, List, Some}
use Rattle.replay_core.specs.Reading.{Reaches}
use Rattle.replay_core.specs.declared.session.TheConstants.{MOST_LINES}
use Rattle.replay_core.proofs.Devices.{StillReads, StillWrites}
use Rattle.replay_core.proofs.reading.answer_all.Given as goal

abbrev pub invariant-loop-session : goal.invariant-loop-session
invariant-loop-session g l = record {
  reader : StillReads g.I.Input.calls g.I.Input.failures g.I.Input.stalls l.initial.reader l.reader l.lines.reads;
  writer : StillWrites g.O.Output.failures g.O.Output.stalls l.initial.writer l.writer;
  reaches : (script sent : List ℕ) → g.I.Input.left l.initial.reader ≡ Some script → g.O.Output.held l.initial.writer ≡ Some sent →
      Reaches sent l.initial.session script (g.I.Input.left l.reader) (g.O.Output.held l.writer) l.session l.lines.kept;
}

abbrev pub decreases-loop-session : goal.decreases-loop-session
decreases-loop-session g l = MOST_LINES - l.session.before
