use Rattle.std.proofs.Common.{◌≡◌, map, take}
use Rattle.conn_model.specs.Servers.{weight_of}
use Rattle.conn_versions.proofs.picks.weights_of.Given as goal

abbrev pub invariant-loop-server : goal.invariant-loop-server
invariant-loop-server l = l.weights.items ≡ map weight_of (take l.server-index l.servers)
