use Rattle.std.proofs.Common.{ap, ◌∙◌}
use Rattle.conn_model.specs.Counts.{open_named, total}
use Rattle.conn_rows.specs.Counts.{open_stored}
use Rattle.conn_rows.proofs.Totals.{open_is}
use Rattle.conn_rows.proofs.rows.Rows.open_named.Goals as goal

pub returns-clause-value : goal.returns-clause-value
returns-clause-value c =
    c.open_named.ensures.value
    ∙ ap (total (open_stored c.args.name.now)) c.as_slice.ensures.value
    ∙ open_is c.self.inside.kept.versions c.self.inside.frontends.items c.args.name.now
    ∙ ap (λ s. open_named s.frontends c.args.name.now) c.self.view_is
