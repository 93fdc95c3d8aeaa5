use Rattle.crew_core.proofs.OutletLemmas.{both, nothing_yet}
use Rattle.crew_core.proofs.outlet.drain.Goals as goal

pub loop-segment-init : goal.loop-segment-init
loop-segment-init g c = nothing_yet g.S.Sink.takes g.S.Sink.refuses _ _

pub loop-segment-preserved : goal.loop-segment-preserved
loop-segment-preserved g c = both g.S.Sink.takes g.S.Sink.refuses _ _ _ c.loop-segment.outlet _ c.hand_next.new.outlet c.loop-segment.invariant c.in-Some.ensures.some

pub returns-in-None : goal.returns-in-None
returns-in-None g c = both g.S.Sink.takes g.S.Sink.refuses _ _ _ c.loop-segment.outlet _ c.hand_next.new.outlet c.loop-segment.invariant c.in-None.ensures.none
