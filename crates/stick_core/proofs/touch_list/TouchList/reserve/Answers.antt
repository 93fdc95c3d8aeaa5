use Rattle.stick_core.proofs.PlaceLemmas.{kept-same}
use Rattle.stick_core.proofs.touch_list.TouchList.reserve.Goals as goal

pub invariant_of-self-2 : goal.invariant_of-self-2
invariant_of-self-2 c =
    kept-same c.self.inside.index.entries c.reserve.new.self.entries c.self.inside.touched c.reserve-2.new.self c.self.inside.free c.reserve-3.new.self c.self.invariant
    c.reserve.ensures.entries c.reserve-2.ensures.same c.reserve-3.ensures.same
