use Rattle.std.proofs.Common.{◌≡◌, ◌++◌, drop, map}
use Rattle.std.specs.Prelude.{flat_map}
use Rattle.explain_core.specs.Text.{asked_in_group, criterion_line}
use Rattle.explain_core.proofs.quotes.condition_lines.Given as goal

abbrev pub invariant-loop-group : goal.invariant-loop-group
invariant-loop-group g l =
    l.lines.items ++ map (criterion_line (g.V.View.worth l.view)) (flat_map (asked_in_group (g.V.View.acls l.view)) (drop l.group-index l.group-items))
    ≡ map (criterion_line (g.V.View.worth l.view)) (flat_map (asked_in_group (g.V.View.acls l.view)) l.group-items)
