use Rattle.std.proofs.Common.{◌≡◌, drop}
use Rattle.std.specs.Option.{option_or}
use Rattle.plan_core.specs.Fields.{line_redispatch, last_of}
use Rattle.plan_core.proofs.fields.last_redispatch.Given as goal

abbrev pub invariant-loop-item : goal.invariant-loop-item
invariant-loop-item l = option_or (last_of line_redispatch (drop l.item-index l.items)) l.last ≡ last_of line_redispatch l.items
