use Rattle.std.proofs.Common.{◌≡◌, ◌≤◌, ◌++◌, length, drop}
use Rattle.text_core.specs.Decimal.{decimal}
use Rattle.text_core.proofs.decimal.put_digits.Given as goal

abbrev pub invariant-loop-rest : goal.invariant-loop-rest
invariant-loop-rest l = record {
  room : length (decimal l.rest) ≤ l.at;
  within : l.at ≤ 20;
  written : decimal l.rest ++ drop l.at l.digits ≡ decimal l.number;
}

abbrev pub decreases-loop-rest : goal.decreases-loop-rest
decreases-loop-rest l = l.rest
