use Rattle.tenant_laws.proofs.Outside.{outside-step}
use Rattle.tenant_laws.proofs.laws.outside.Goals as goal

pub returns : goal.returns
returns c = outside-step
