use Rattle.std.proofs.Common.{◌≡◌, drop}
use Rattle.std.specs.List.{flat_map}
use Rattle.plan_core.specs.Faults.{group_faults, earliest, least}
use Rattle.plan_core.proofs.criteria.condition_fault.Given as goal

abbrev pub invariant-loop-group : goal.invariant-loop-group
invariant-loop-group l =
    earliest l.found (least (flat_map (group_faults l.tables l.backends l.all l.name l.line) (drop l.group-index l.groups)))
    ≡ least (flat_map (group_faults l.tables l.backends l.all l.name l.line) l.groups)
