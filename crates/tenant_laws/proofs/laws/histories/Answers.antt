use Rattle.tenant_laws.proofs.Whole.{by-history}
use Rattle.tenant_laws.proofs.laws.histories.Goals as goal

pub returns : goal.returns
returns c = by-history
