use Rattle.conn_model.proofs.Reloads.{table_stays}
use Rattle.conn_model.proofs.laws.tables_stay_over_reloads.Goals as goal

pub returns : goal.returns
returns c = table_stays
