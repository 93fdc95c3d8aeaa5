use Rattle.std.proofs.Common.{◌≡◌, ◌<◌, ◌≤◌, Some, length, sym, ap, ◌∙◌, arith}
use Rattle.conn_versions.proofs.ServerLoads.{placed_server, server_past}
use Rattle.conn_versions.proofs.picks.connections_at.Goals as goal

pub slot_of-requires : goal.slot_of-requires
slot_of-requires c =
    let less = c.if-number-len.true in
    let len = c.len.ensures in
    let same = c.from-number.ensures in
    let many = c.requires.slots.many in
    omega (arith, less, len, same, many)

pub count-requires : goal.count-requires
count-requires c =
    let less = c.if-number-len.true in
    let len = c.len.ensures in
    let same = c.from-number.ensures in
    let within : c.args.server < length c.args.backend.now.servers = omega (arith, less, len, same) in
    (placed_server c.args.slots.now c.args.backend.now c.args.own.now.slots c.args.server c.slot_of.result c.requires within c.slot_of.ensures).within

pub returns-then-number-len : goal.returns-then-number-len
returns-then-number-len c =
    let less = c.if-number-len.true in
    let len = c.len.ensures in
    let same = c.from-number.ensures in
    let within : c.args.server < length c.args.backend.now.servers = omega (arith, less, len, same) in
    ap (λ n. Some n) c.count.ensures ∙ (placed_server c.args.slots.now c.args.backend.now c.args.own.now.slots c.args.server c.slot_of.result c.requires within c.slot_of.ensures).counted

pub returns-else-number-len : goal.returns-else-number-len
returns-else-number-len c =
    let more = c.if-number-len.false in
    let len = c.len.ensures in
    let same = c.from-number.ensures in
    sym (server_past c.args.slots.now c.args.backend.now c.args.server (omega (arith, more, len, same)))
