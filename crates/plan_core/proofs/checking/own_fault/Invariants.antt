use Rattle.std.proofs.Common.{◌≡◌, drop}
use Rattle.plan_core.specs.Faults.{own_faults, earliest, least}
use Rattle.plan_core.proofs.checking.own_fault.Given as goal

abbrev pub invariant-loop-item : goal.invariant-loop-item
invariant-loop-item l =
    earliest l.found (least (own_faults l.tables l.backends l.all l.name (drop l.item-index l.items))) ≡ least (own_faults l.tables l.backends l.all l.name l.items)
