use Rattle.std.proofs.Common.{◌≤◌, arith}
use Rattle.addr_core.specs.declared.addr.Addr.{Addr}
use Rattle.addr_core.specs.declared.addr.Addr.TheVariants.{V4, V6}
use Rattle.pp_v1.specs.Line.{line_limit}
use Rattle.pp_any.proofs.WrittenLines.{v1_is_whole}
use Rattle.pp_any.proofs.writing.write_v1.Goals as goal

within : (addr : Addr) → line_limit addr ≤ 107
within (V4 number) = omega arith
within (V6 number) = omega arith

pub returns-clause-whole : goal.returns-clause-whole
returns-clause-whole c =
    let limit = within c.args.pair.now.source.addr in
    let most = c.write_v1.ensures.length in
    v1_is_whole c.write_v1.result.items c.args.pair.now c.write_v1.ensures.line (omega arith) c.write_v1.ensures.read_again
