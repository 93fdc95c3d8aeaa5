use Rattle.std.proofs.Common.{◌≡◌, ◌≤◌, arith, length, length-append, ap, ◌∙◌}
use Rattle.text_core.specs.Decimal.{decimal}
use Rattle.text_core.proofs.DecimalLemmas.{length-decimal-le}
use Rattle.addr_core.proofs.writing.push_octet.Goals as goal

pub push_decimal-requires : goal.push_decimal-requires
push_decimal-requires c =
    let short : length (decimal c.args.octet) ≤ 3 = length-decimal-le 3 c.args.octet (omega arith) (omega arith) in
    (omega arith, rw c.from.ensures (omega arith))

pub returns-clause-room : goal.returns-clause-room
returns-clause-room c =
    let short : length (decimal c.args.octet) ≤ 3 = length-decimal-le 3 c.args.octet (omega arith) (omega arith) in
    let whole = ap length c.push_decimal.ensures ∙ length-append c.args.text.now.bytes (decimal c.from.result) in
    let same : length (decimal c.from.result) ≡ length (decimal c.args.octet) = ap (λ n. length (decimal n)) c.from.ensures in
    omega (arith, short, whole, same)
