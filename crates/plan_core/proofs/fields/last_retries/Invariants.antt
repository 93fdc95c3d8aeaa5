use Rattle.std.proofs.Common.{◌≡◌, drop}
use Rattle.std.specs.Option.{option_or}
use Rattle.plan_core.specs.Fields.{line_retries, last_of}
use Rattle.plan_core.proofs.fields.last_retries.Given as goal

abbrev pub invariant-loop-item : goal.invariant-loop-item
invariant-loop-item l = option_or (last_of line_retries (drop l.item-index l.items)) l.last ≡ last_of line_retries l.items
