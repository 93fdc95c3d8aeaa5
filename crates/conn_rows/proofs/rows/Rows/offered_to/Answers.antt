use Rattle.std.proofs.Common.{ap, ◌∙◌}
use Rattle.conn_model.specs.Counts.{offered_to}
use Rattle.conn_rows.specs.Value.{RowsValue}
use Rattle.conn_rows.proofs.OfferedTo.{open_in_is}
use Rattle.conn_rows.proofs.rows.Rows.offered_to.Goals as goal

pub returns : goal.returns
returns c =
    c.offered.ensures ∙ open_in_is c.self.inside.frontends.items c.self.inside.kept c.self.invariant.served c.args.name.now
    ∙ ap (λ (v : RowsValue). offered_to v.frontends c.args.name.now) c.self.view_is
