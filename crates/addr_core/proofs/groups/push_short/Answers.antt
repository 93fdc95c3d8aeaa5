use Rattle.std.proofs.Common.{ap, arith, length, length-append}
use Rattle.addr_core.specs.Groups.{hexadecimal}
use Rattle.addr_core.proofs.HexLemmas.{length-hexadecimal}
use Rattle.addr_core.proofs.groups.push_short.Goals as goal

pub push_group-requires : goal.push_group-requires
push_group-requires c = omega (arith, length-hexadecimal c.args.group)

pub returns-clause-room : goal.returns-clause-room
returns-clause-room c =
    omega (arith, length-hexadecimal c.args.group, ap length c.push_group.ensures, length-append c.args.text.now.bytes (hexadecimal c.args.group))
