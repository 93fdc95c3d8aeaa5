use Rattle.std.proofs.Common.{refl}
use Rattle.conn_rows.specs.Changes.{stored_up}
use Rattle.conn_rows.proofs.Serials.{open-with}
use Rattle.conn_rows.proofs.Fed.{up_held}
use Rattle.conn_rows.proofs.frontend.FrontendState.up.Goals as goal

pub invariant_of-self : goal.invariant_of-self
invariant_of-self c =
    rw c.up_row.ensures.rows
    (open-with c.args.serial c.self.inside.serial stored_up c.self.inside.rows (λ row. refl) (λ row. up_held row.stage) c.self.invariant)
