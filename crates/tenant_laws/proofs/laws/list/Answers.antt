use Rattle.tenant_laws.proofs.Whole.{tenants-apart}
use Rattle.tenant_laws.proofs.laws.list.Goals as goal

pub returns : goal.returns
returns c = tenants-apart
