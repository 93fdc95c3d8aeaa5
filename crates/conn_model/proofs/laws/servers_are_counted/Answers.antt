use Rattle.conn_model.proofs.Counted.{history_counts}
use Rattle.conn_model.proofs.laws.servers_are_counted.Goals as goal

pub returns : goal.returns
returns c = history_counts
