use Rattle.std.proofs.Common.{subst}
use Rattle.conn_model.specs.History.{IsWell}
use Rattle.conn_core.proofs.machine.Core.clock.Goals as goal

pub returns-clause-well : goal.returns-clause-well
returns-clause-well c = subst IsWell c.self.view_is c.self.invariant.well
