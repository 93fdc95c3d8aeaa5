use Rattle.std.proofs.Common.{sym, subst}
use Rattle.stick_core.specs.Ring.{Ranking, Lacks}
use Rattle.stick_core.proofs.RingLemmas.{lacks-itself}
use Rattle.stick_core.proofs.touch_list.move_last.Goals as goal

pub push_back-requires-clause-lacks : goal.push_back-requires-clause-lacks
push_back-requires-clause-lacks c = let P : Ranking → Type 0 = λ r. Lacks c.args.place r.order in subst P (sym c.remove.ensures) (lacks-itself c.args.place c.args.order.now.order)
