use Rattle.desk_core.proofs.First.{first_fault_is_one}
use Rattle.desk_core.proofs.laws.first_fault_is_one.Goals as goal

pub returns : goal.returns
returns c = first_fault_is_one
