use Rattle.std.proofs.Common.{List, map, ap, ◌∙◌}
use Rattle.conn_model.specs.Tables.{open_tracks, tables_alive}
use Rattle.conn_model.specs.declared.plain.TableState.{TableState}
use Rattle.conn_rows.specs.Stored.{plain_frontend}
use Rattle.conn_rows.specs.Value.{RowsValue}
use Rattle.conn_rows.proofs.Counted.{are_counted}
use Rattle.conn_rows.proofs.TablesListed.{listed-later}
use Rattle.conn_rows.proofs.rows.Rows.pass.Goals as goal

pub invariant_of-self : goal.invariant_of-self
invariant_of-self c =
    rw c.pass.ensures.value
    (record {
      rows = c.self.invariant.rows;
      served = c.self.invariant.served;
      listed = listed-later c.self.inside.kept.versions c.self.inside.tables.clock c.args.moment c.self.inside.tables.tables c.self.invariant.listed;
    })

pub returns : goal.returns
returns c =
    let frontends = map (plain_frontend c.self.inside.kept.versions) c.self.inside.frontends.items in
    let alive = c.pass.ensures.plain (open_tracks frontends) (are_counted c.self.inside.kept.versions c.self.inside.frontends.items c.self.inside.tables.tables c.self.invariant.rows) in
    let with_tables : List TableState → RowsValue = λ tables. record {
      frontends = frontends;
      versions = c.self.inside.kept.versions;
      tables = tables;
      clock = c.args.moment;
      spare = c.self.inside.tables.spare;
      down = c.self.inside.down.items;
    } in
    let passing : RowsValue → RowsValue = λ v. record v { tables = tables_alive c.args.moment (open_tracks v.frontends) v.tables; clock = c.args.moment } in
    rw c.pass.ensures.value (ap with_tables alive ∙ ap passing c.self.view_is)
