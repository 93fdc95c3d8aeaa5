use Rattle.pp_any.proofs.NextPiece.{goes_on, used_within}
use Rattle.pp_any.specs.Status.{Fault, Whole}
use Rattle.pp_any.proofs.laws.rest_goes_on.Goals as goal

pub returns-clause-status : goal.returns-clause-status
returns-clause-status c = λ b rest is more. (goes_on b more rest is).status

pub returns-clause-rest : goal.returns-clause-rest
returns-clause-rest c = λ b rest is more. (goes_on b more rest is).holds

pub returns-clause-whole : goal.returns-clause-whole
returns-clause-whole c = λ b rest is more used meaning found. used_within b more rest (Whole used meaning) is found

pub returns-clause-fault : goal.returns-clause-fault
returns-clause-fault c = λ b rest is more used fault found. used_within b more rest (Fault fault used) is found
