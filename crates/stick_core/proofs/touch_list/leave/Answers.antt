use Rattle.std.proofs.Common.{sym, ap}
use Rattle.stick_core.proofs.RingLemmas.{without-lacks}
use Rattle.stick_core.proofs.touch_list.leave.Goals as goal

pub returns-else-is_there : goal.returns-else-is_there
returns-else-is_there c =
    ap (λ l. record c.args.order.now { order = l }) (sym (without-lacks c.args.place c.args.order.now.order (c.requires.lacks c.if-is_there.false)))
