use Rattle.std.proofs.Common.{refl}
use Rattle.conn_rows.specs.Changes.{stored_fed}
use Rattle.conn_rows.proofs.Serials.{open-with}
use Rattle.conn_rows.proofs.Fed.{fed_held}
use Rattle.conn_rows.proofs.frontend.FrontendState.feed.Goals as goal

pub invariant_of-self : goal.invariant_of-self
invariant_of-self c =
    rw c.feed_row.ensures.rows
    (open-with c.args.serial c.self.inside.serial (stored_fed c.args.piece.now) c.self.inside.rows (λ row. refl) (λ row held. fed_held row.stage c.args.piece.now held) c.self.invariant)
