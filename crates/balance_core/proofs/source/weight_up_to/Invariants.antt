use Rattle.std.proofs.Common.{◌≡◌, ◌*◌, ◌≤◌, take}
use Rattle.balance_core.specs.Loads.{total_weight}
use Rattle.balance_core.proofs.source.weight_up_to.Given as goal

abbrev pub invariant-loop-server : goal.invariant-loop-server
invariant-loop-server g l = (l.total ≡ total_weight (take l.server (g.L.Load.servers l.load))) × (l.total ≤ 0xFFFF * l.server)
