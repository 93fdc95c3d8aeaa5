use Rattle.conn_laws.proofs.Refused.{refused_for_cause}
use Rattle.conn_laws.proofs.laws.refused_for_its_cause.Goals as goal

pub returns : goal.returns
returns c = refused_for_cause
