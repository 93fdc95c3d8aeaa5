use Rattle.pp_any.proofs.Same.{same_after}
use Rattle.pp_any.proofs.laws.rest_decides.Goals as goal

pub returns-clause-status : goal.returns-clause-status
returns-clause-status c = λ a b rest first second more. (same_after a b rest first second more).status

pub returns-clause-rest : goal.returns-clause-rest
returns-clause-rest c = λ a b rest first second more. (same_after a b rest first second more).rest
