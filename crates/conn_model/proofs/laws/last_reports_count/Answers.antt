use Rattle.conn_model.proofs.Marks.{down_by_last}
use Rattle.conn_model.proofs.laws.last_reports_count.Goals as goal

pub returns : goal.returns
returns c = down_by_last
