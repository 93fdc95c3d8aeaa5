use Rattle.std.proofs.Common.{◌∙◌}
use Rattle.stick_core.specs.Listing.{passed}
use Rattle.stick_core.proofs.PlainLemmas.{count_at_is}
use Rattle.stick_core.proofs.table.StickTable.cnt.Goals as goal

pub returns-clause-plain_value : goal.returns-clause-plain_value
returns-clause-plain_value c = c.count_trackings.ensures ∙ count_at_is (passed c.args.moment c.args.self.now) c.args.addr.now
