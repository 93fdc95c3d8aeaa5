use Rattle.std.proofs.Common.{◌∙◌}
use Rattle.stick_core.specs.Listing.{passed}
use Rattle.stick_core.proofs.PlainLemmas.{count_at_is, trackers_at_is}
use Rattle.stick_core.proofs.table.StickTable.counts.Goals as goal

pub returns-clause-plain_cur : goal.returns-clause-plain_cur
returns-clause-plain_cur c = λ trackers agree. c.count_both.ensures.cur ∙ trackers_at_is trackers c.args.self.now c.args.addr.now agree

pub returns-clause-plain_cnt : goal.returns-clause-plain_cnt
returns-clause-plain_cnt c = c.count_both.ensures.cnt ∙ count_at_is (passed c.args.moment c.args.self.now) c.args.addr.now
