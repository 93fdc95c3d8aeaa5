use Rattle.crew_core.proofs.OutletLemmas.{both}
use Rattle.crew_core.proofs.calls.WorkerContext.hand_on.Goals as goal

pub loop-round-preserved : goal.loop-round-preserved
loop-round-preserved g c = both g.S.Sink.takes g.S.Sink.refuses _ _ _ c.loop-round.outlet _ c.drain-refused.new.outlet c.loop-round.invariant c.drain-refused.ensures

pub returns-then-load : goal.returns-then-load
returns-then-load g c = both g.S.Sink.takes g.S.Sink.refuses _ _ _ c.loop-round.outlet _ c.drain-refused.new.outlet c.loop-round.invariant c.drain-refused.ensures
