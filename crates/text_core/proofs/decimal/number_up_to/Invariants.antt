use Rattle.std.proofs.Common.{◌≡◌, ◌≤◌, take}
use Rattle.text_core.specs.Decimal.{value_of}
use Rattle.text_core.proofs.decimal.number_up_to.Given as goal

abbrev pub invariant-loop-digit : goal.invariant-loop-digit
invariant-loop-digit l = (l.number ≡ value_of (take l.digit-index l.digits)) × (l.number ≤ l.most)
