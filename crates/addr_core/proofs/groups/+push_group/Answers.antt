use Rattle.std.proofs.Common.{◌∷◌, ◌++◌, ◌/◌, ◌%◌, ◌∙◌, [], ap, append_assoc, arith, length, length-append, sym}
use Rattle.std.specs.Char.{digit_char}
use Rattle.addr_core.specs.Groups.{hexadecimal}
use Rattle.addr_core.proofs.HexLemmas.{hexadecimal_small, hexadecimal_step}
use Rattle.addr_core.proofs.groups.+push_group.Goals as goal

pub push_digit-requires-clause-room : goal.push_digit-requires-clause-room
push_digit-requires-clause-room t c = omega (arith, ap length (hexadecimal_small c.args.group c.if-group-lt16.true))

pub returns-then-group-lt16 : goal.returns-then-group-lt16
returns-then-group-lt16 t c = c.push_digit.ensures ∙ ap (λ digits. c.args.text.now.bytes ++ digits) (sym (hexadecimal_small c.args.group c.if-group-lt16.true))

pub push_group-requires : goal.push_group-requires
push_group-requires t c =
    let whole = ap length (hexadecimal_step c.args.group c.if-group-lt16.false (omega arith)) in
    let front = length-append (hexadecimal (c.args.group / 16)) (digit_char (c.args.group % 16) ∷ []) in
    (omega (arith, c.decreases), omega (arith, whole, front))

pub push_digit-requires-2-clause-room : goal.push_digit-requires-2-clause-room
push_digit-requires-2-clause-room t c =
    let whole = ap length (hexadecimal_step c.args.group c.if-group-lt16.false (omega arith)) in
    let front = length-append (hexadecimal (c.args.group / 16)) (digit_char (c.args.group % 16) ∷ []) in
    omega (arith, whole, front, ap length c.push_group.ensures, length-append c.args.text.now.bytes (hexadecimal (c.args.group / 16)))

pub returns : goal.returns
returns t c =
    c.push_digit-2.ensures ∙ rw (c.push_group.ensures, hexadecimal_step c.args.group c.if-group-lt16.false (omega arith))
    (append_assoc c.args.text.now.bytes (hexadecimal (c.args.group / 16)) (digit_char (c.args.group % 16) ∷ []))
