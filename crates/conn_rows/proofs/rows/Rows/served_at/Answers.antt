use Rattle.std.proofs.Common.{ap, ◌∙◌}
use Rattle.std.proofs.Math.Path.{fun_ext}
use Rattle.conn_model.specs.Counts.{newest_backend, served_by}
use Rattle.conn_versions.specs.Versions.{connections_in}
use Rattle.conn_rows.specs.Value.{RowsValue}
use Rattle.conn_rows.proofs.OpenTo.{open_is_served}
use Rattle.conn_rows.proofs.rows.Rows.served_at.Goals as goal

pub returns : goal.returns
returns c =
    c.connections_at.ensures
    ∙ ap (λ served. connections_in served (newest_backend c.self.inside.kept.versions c.args.backend) c.args.server)
    (fun_ext (open_is_served c.self.inside.frontends.items c.self.inside.kept c.as_slice-versions.ensures.apart c.self.invariant.served))
    ∙ ap (λ (v : RowsValue). connections_in (served_by v.frontends) (newest_backend v.versions c.args.backend) c.args.server) c.self.view_is
