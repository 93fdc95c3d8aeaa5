use Rattle.std.proofs.Common.{map}
use Rattle.conn_model.specs.Tables.{open_tracks, table_at, tables_alive}
use Rattle.conn_rows.specs.Stored.{plain_frontend}
use Rattle.conn_tables.specs.Tables.{plain_table}
use Rattle.conn_rows.proofs.Counted.{are_counted, counts_few}
use Rattle.conn_rows.proofs.rows.Rows.counts.Goals as goal

pub returns-clause-value : goal.returns-clause-value
returns-clause-value c =
    rw (← c.self.view_is)
    (c.counts.ensures (open_tracks (map (plain_frontend c.self.inside.kept.versions) c.self.inside.frontends.items)) (are_counted c.self.inside.kept.versions c.self.inside.frontends.items c.self.inside.tables.tables c.self.invariant.rows))

pub returns-clause-few : goal.returns-clause-few
returns-clause-few c =
    rw (c.counts.ensures (open_tracks (map (plain_frontend c.self.inside.kept.versions) c.self.inside.frontends.items)) (are_counted c.self.inside.kept.versions c.self.inside.frontends.items c.self.inside.tables.tables c.self.invariant.rows))
    (counts_few c.self.inside.kept.versions c.self.inside.frontends.items c.self.inside.tables.tables c.args.addr.now (table_at (tables_alive c.args.moment (open_tracks (map (plain_frontend c.self.inside.kept.versions) c.self.inside.frontends.items)) (map (plain_table c.self.inside.tables.clock) c.self.inside.tables.tables)) c.args.id) c.self.invariant.rows)
