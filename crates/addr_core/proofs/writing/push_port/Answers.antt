use Rattle.std.proofs.Common.{◌≤◌, [], ◌∷◌, arith, length, length-append, ap, ◌∙◌}
use Rattle.text_core.specs.Decimal.{decimal}
use Rattle.text_core.proofs.DecimalLemmas.{length-decimal-le}
use Rattle.addr_core.proofs.writing.push_port.Goals as goal

pub push_decimal-requires : goal.push_decimal-requires
push_decimal-requires c =
    let short : length (decimal c.args.port) ≤ 5 = length-decimal-le 5 c.args.port (omega arith) (omega arith) in
    let front = ap length (c.push.ensures.ascii (omega arith)) ∙ length-append c.args.text.now.bytes (58 ∷ []) in
    (omega arith, rw c.from.ensures (omega (arith, front)))
