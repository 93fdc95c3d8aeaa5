use Rattle.std.proofs.Common.{ap, ◌∙◌}
use Rattle.conn_model.specs.Counts.{served_by}
use Rattle.conn_model.specs.Servers.{identity_in}
use Rattle.conn_rows.specs.Value.{RowsValue}
use Rattle.conn_rows.proofs.OpenTo.{open_is_served}
use Rattle.conn_rows.proofs.rows.Rows.served_by.Goals as goal

pub returns : goal.returns
returns c =
    c.connections.ensures
    ∙ open_is_served c.self.inside.frontends.items c.self.inside.kept c.as_slice-versions.ensures.apart c.self.invariant.served (identity_in c.args.backend.now c.args.server.now)
    ∙ ap (λ (v : RowsValue). served_by v.frontends (identity_in c.args.backend.now c.args.server.now)) c.self.view_is
