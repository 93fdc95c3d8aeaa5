use Rattle.tenant_laws.proofs.Whole.{apart-opening, sound-history, sound-opening}
use Rattle.tenant_laws.proofs.laws.regular.Goals as goal

pub returns : goal.returns
returns c = record { opens = sound-opening; keeps = sound-history; apart = apart-opening }
