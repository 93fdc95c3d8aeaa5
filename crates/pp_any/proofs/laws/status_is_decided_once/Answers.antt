use Rattle.pp_any.proofs.First.{decided_once, header_alone}
use Rattle.pp_any.proofs.laws.status_is_decided_once.Goals as goal

pub returns-clause-decided : goal.returns-clause-decided
returns-clause-decided c = decided_once

pub returns-clause-header : goal.returns-clause-header
returns-clause-header c = header_alone
