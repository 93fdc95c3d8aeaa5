use Rattle.std.proofs.Common.{◌+◌, ◌<◌, ◌≤◌, [], refl, arith}
use Rattle.conn_model.proofs.Lists.{all-more}
use Rattle.conn_rows.specs.Stored.{stored_arrival}
use Rattle.conn_rows.proofs.Serials.{open-push}
use Rattle.conn_rows.proofs.frontend.FrontendState.insert.Goals as goal

pub push-requires : goal.push-requires
push-requires c =
    rw c.new-row.ensures (all-more (λ row. row.serial ≤ c.self.inside.serial) (λ row. row.serial < c.self.inside.serial + 1) c.self.inside.rows (λ row le. omega (arith, le)) c.self.invariant.given)

pub invariant_of-self : goal.invariant_of-self
invariant_of-self c =
    rw (c.in-Ok.ensures.ok, c.new-row.ensures)
    (open-push c.self.inside.serial c.self.inside.rows (stored_arrival (c.self.inside.serial + 1) c.args.version c.args.real c.args.accepted) c.self.invariant refl ([], (refl, refl)))
