use Rattle.std.proofs.Common.{take}
use Rattle.desk_core.specs.Calls.{kept_of}
use Rattle.desk_core.specs.Receipts.{AreReceipts, record_from}
use Rattle.desk_core.proofs.receipts.check_receipts.Given as goal

abbrev pub invariant-loop-at : goal.invariant-loop-at
invariant-loop-at g l = AreReceipts (record_from l.records) (kept_of (take l.at l.passes))
