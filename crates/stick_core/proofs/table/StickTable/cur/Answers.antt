use Rattle.std.proofs.Common.{◌∙◌}
use Rattle.stick_core.proofs.PlainLemmas.{trackers_at_is}
use Rattle.stick_core.proofs.table.StickTable.cur.Goals as goal

pub returns-clause-plain_value : goal.returns-clause-plain_value
returns-clause-plain_value c = λ trackers agree. c.count_trackers.ensures ∙ trackers_at_is trackers c.args.self.now c.args.addr.now agree
