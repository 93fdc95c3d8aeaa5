use Rattle.conn_model.proofs.Reloads.{binds_stay}
use Rattle.conn_model.proofs.laws.binds_stay.Goals as goal

pub returns : goal.returns
returns c = binds_stay
