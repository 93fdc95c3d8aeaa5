use Rattle.std.proofs.Common.{◌∙◌, arith}
use Rattle.crew_core.proofs.OutletLemmas.{both}
use Rattle.crew_core.proofs.outlet.empty.Goals as goal

pub loop-segment-preserved : goal.loop-segment-preserved
loop-segment-preserved g c = (
  both g.S.Sink.takes g.S.Sink.refuses _ _ _ c.loop-segment.outlet _ c.hand_known-total.new.outlet c.loop-segment.invariant.0 c.hand_known-total.ensures.handed,
  c.hand_known-total.ensures.rest ∙ c.loop-segment.invariant.1,
  omega (arith, c.hand_known-total.ensures.fewer, c.loop-segment.invariant.2),
)
