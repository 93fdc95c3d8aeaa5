use Rattle.std.proofs.Common.{◌≡◌, ◌++◌, drop}
use Rattle.plan_core.specs.Fields.{line_choice, all_of}
use Rattle.plan_core.proofs.acls.choices_in.Given as goal

abbrev pub invariant-loop-item : goal.invariant-loop-item
invariant-loop-item l = l.choices ++ all_of (line_choice l.backends) (drop l.item-index l.items) ≡ all_of (line_choice l.backends) l.items
