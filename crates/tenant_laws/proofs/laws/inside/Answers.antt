use Rattle.tenant_laws.proofs.Later.{answers-same}
use Rattle.tenant_laws.proofs.Inside.{inside-step}
use Rattle.tenant_laws.proofs.laws.inside.Goals as goal

pub returns : goal.returns
returns c = record { answers = answers-same; states = inside-step }
