use Rattle.conn_model.proofs.Changes.{changed_gone, changed_twice}
use Rattle.conn_rows.proofs.laws.changes_join.Goals as goal

pub returns-clause-twice : goal.returns-clause-twice
returns-clause-twice c = changed_twice

pub returns-clause-gone : goal.returns-clause-gone
returns-clause-gone c = changed_gone
