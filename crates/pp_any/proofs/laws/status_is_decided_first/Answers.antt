use Rattle.std.specs.Prelude.{Ok, Err}
use Rattle.pp_any.proofs.First.{status_first, first_of_status, waits_nowhere, nowhere_waits}
use Rattle.pp_any.proofs.laws.status_is_decided_first.Goals as goal

pub returns-clause-whole : goal.returns-clause-whole
returns-clause-whole c = λ b count meaning. (first_of_status b count (Ok meaning), status_first b count (Ok meaning))

pub returns-clause-fault : goal.returns-clause-fault
returns-clause-fault c = λ b count fault. (first_of_status b count (Err fault), status_first b count (Err fault))

pub returns-clause-wait : goal.returns-clause-wait
returns-clause-wait c = λ b. (waits_nowhere b, nowhere_waits b)
