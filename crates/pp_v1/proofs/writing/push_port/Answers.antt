use Rattle.std.proofs.Common.{[], ◌∷◌, ◌∙◌, ◌≤◌, ap, arith, length, length-append}
use Rattle.text_core.specs.Decimal.{decimal}
use Rattle.text_core.proofs.DecimalLemmas.{length-decimal-le}
use Rattle.pp_v1.proofs.writing.push_port.Goals as goal

pub push-requires-2 : goal.push-requires-2
push-requires-2 c =
    let short : length (decimal c.args.port) ≤ 5 = length-decimal-le 5 c.args.port (omega arith) (omega arith) in
    let text = ap length (c.as_bytes.ensures.value ∙ c.as_str.ensures.value ∙ c.write_decimal-text.ensures.text ∙ ap (λ n. decimal n) c.from.ensures) in
    omega (arith, short, text, ap length c.push.ensures, length-append c.args.line.now.items (32 ∷ []))

pub returns-clause-length : goal.returns-clause-length
returns-clause-length c =
    let short : length (decimal c.args.port) ≤ 5 = length-decimal-le 5 c.args.port (omega arith) (omega arith) in
    let text = ap length (c.as_bytes.ensures.value ∙ c.as_str.ensures.value ∙ c.write_decimal-text.ensures.text ∙ ap (λ n. decimal n) c.from.ensures) in
    omega (
      arith,
      short,
      text,
      ap length c.push.ensures,
      length-append c.args.line.now.items (32 ∷ []),
      ap length c.push-2.ensures,
      length-append c.push.new.line.items c.as_bytes.result.now,
    )
