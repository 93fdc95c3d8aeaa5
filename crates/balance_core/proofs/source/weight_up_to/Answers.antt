use Rattle.std.proofs.Common.{arith}
use Rattle.balance_core.proofs.RangeLemmas.{total_weight-more}
use Rattle.balance_core.proofs.source.weight_up_to.Goals as goal

pub loop-server-preserved : goal.loop-server-preserved
loop-server-preserved g c =
    let more = total_weight-more (g.L.Load.servers c.args.load.now) c.loop-server.server in
    (omega (arith, more, c.loop-server.invariant.0, c.weight_of.ensures), omega (arith, c.loop-server.invariant.1, c.weight_of.type_inv))
