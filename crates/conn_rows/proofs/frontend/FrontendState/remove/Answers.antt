use Rattle.conn_rows.proofs.Serials.{open-others}
use Rattle.conn_rows.proofs.frontend.FrontendState.remove.Goals as goal

pub invariant_of-self : goal.invariant_of-self
invariant_of-self c = rw c.take.ensures.left (open-others c.args.serial c.self.inside.serial c.self.inside.rows c.self.invariant)
