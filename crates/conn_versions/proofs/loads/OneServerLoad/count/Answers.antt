use Rattle.std.proofs.Common.{ap, length, sym, ◌∙◌}
use Rattle.conn_versions.proofs.ServerLoads.{length-one}
use Rattle.conn_versions.proofs.loads.OneServerLoad.count.Goals as goal

pub returns-clause-value : goal.returns-clause-value
returns-clause-value c = sym (length-one c.self.inside.number c.self.inside.servers.now) ∙ ap length c.self.view_is
