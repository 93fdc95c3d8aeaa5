use Rattle.std.proofs.Common.{◌≡◌, ◌++◌, drop}
use Rattle.plan_core.specs.Fields.{line_bind, all_of}
use Rattle.plan_core.proofs.fields.binds_in.Given as goal

abbrev pub invariant-loop-item : goal.invariant-loop-item
invariant-loop-item l = l.binds ++ all_of line_bind (drop l.item-index l.items) ≡ all_of line_bind l.items
