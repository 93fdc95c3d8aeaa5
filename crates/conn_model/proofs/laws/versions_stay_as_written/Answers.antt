use Rattle.conn_model.proofs.Reloads.{written_stays}
use Rattle.conn_model.proofs.laws.versions_stay_as_written.Goals as goal

pub returns : goal.returns
returns c = written_stays
