use Rattle.std.proofs.Common.{◌≡◌, drop}
use Rattle.plan_core.specs.Faults.{group_faults, earliest, least}
use Rattle.plan_core.proofs.criteria.group_fault.Given as goal

abbrev pub invariant-loop-term : goal.invariant-loop-term
invariant-loop-term l =
    earliest l.found (least (group_faults l.tables l.backends l.all l.name l.line (drop l.term-index l.terms))) ≡ least (group_faults l.tables l.backends l.all l.name l.line l.terms)
