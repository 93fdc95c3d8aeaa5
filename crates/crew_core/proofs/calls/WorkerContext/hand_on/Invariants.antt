use Rattle.crew_core.specs.Outlets.{HasHandedOn}
use Rattle.crew_core.proofs.calls.WorkerContext.hand_on.Given as goal

abbrev pub invariant-loop-round : goal.invariant-loop-round
invariant-loop-round g l = HasHandedOn g.S.Sink.takes g.S.Sink.refuses 0 l.fn.outlet l.refused l.outlet
