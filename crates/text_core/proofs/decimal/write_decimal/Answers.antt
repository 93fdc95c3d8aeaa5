use Rattle.std.proofs.Common.{arith, length, ◌∙◌, ◌≡◌, ◌≤◌, ap, ◌++◌}
use Rattle.text_core.specs.Decimal.{decimal}
use Rattle.text_core.proofs.DecimalLemmas.{length-decimal-le, decimal_of_written}
use Rattle.text_core.proofs.decimal.write_decimal.Goals as goal

pub push_digits-requires : goal.push_digits-requires
push_digits-requires c =
    let short : length (decimal c.args.number) ≤ 20 = length-decimal-le 20 c.args.number (omega arith) (omega arith) in
    let empty : length c.new-text.result.bytes ≡ 0 = ap length c.new-text.ensures in
    omega arith

pub returns-clause-read_again : goal.returns-clause-read_again
returns-clause-read_again c = λ most le.
    decimal_of_written c.push_digits.new.text.bytes most c.args.number le
    (c.push_digits.ensures ∙ ap (λ front. front ++ decimal c.args.number) c.new-text.ensures)
