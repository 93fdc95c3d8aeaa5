use Rattle.conn_model.proofs.Totals.{popped}
use Rattle.conn_rows.proofs.frontend.last_frontend.Goals as goal

pub returns-clause-counts : goal.returns-clause-counts
returns-clause-counts c = popped c.pop.result c.args.frontends.now.items c.pop.new.self.items c.pop.ensures.items
