use Rattle.std.proofs.Common.{map}
use Rattle.conn_model.specs.Tables.{open_tracks}
use Rattle.conn_rows.specs.Stored.{plain_frontend}
use Rattle.conn_rows.proofs.Counted.{are_counted}
use Rattle.conn_rows.proofs.rows.Rows.key_for.Goals as goal

pub returns : goal.returns
returns c =
    rw (← c.self.view_is)
    (λ moment later. c.key_for.ensures moment (open_tracks (map (plain_frontend c.self.inside.kept.versions) c.self.inside.frontends.items)) later (are_counted c.self.inside.kept.versions c.self.inside.frontends.items c.self.inside.tables.tables c.self.invariant.rows))
