use Rattle.crew_core.specs.Outlets.{HasHandedOn}
use Rattle.crew_core.proofs.outlet.drain.Given as goal

abbrev pub invariant-loop-segment : goal.invariant-loop-segment
invariant-loop-segment g l = HasHandedOn g.S.Sink.takes g.S.Sink.refuses l.fn.refused l.fn.outlet l.total l.outlet
