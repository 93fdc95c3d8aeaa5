use Rattle.desk_core.proofs.Once.{each_is_receipt_of_one_call}
use Rattle.desk_core.proofs.laws.each_is_receipt_of_one_call.Goals as goal

pub returns : goal.returns
returns c = each_is_receipt_of_one_call
