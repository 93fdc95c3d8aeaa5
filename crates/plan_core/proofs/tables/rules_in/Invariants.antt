use Rattle.std.proofs.Common.{◌≡◌, ◌++◌, drop}
use Rattle.plan_core.specs.Fields.{line_rule, all_of}
use Rattle.plan_core.proofs.tables.rules_in.Given as goal

abbrev pub invariant-loop-item : goal.invariant-loop-item
invariant-loop-item l = l.rules ++ all_of (line_rule l.list l.tables l.name) (drop l.item-index l.items) ≡ all_of (line_rule l.list l.tables l.name) l.items
