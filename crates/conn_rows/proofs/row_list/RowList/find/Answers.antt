use Rattle.std.proofs.Common.{ap, ◌∙◌}
use Rattle.std.specs.Prelude.{find}
use Rattle.conn_rows.specs.Stored.{has_serial}
use Rattle.conn_rows.proofs.RowLists.{found}
use Rattle.conn_rows.proofs.row_list.RowList.find.Goals as goal

pub returns : goal.returns
returns c = c.get.ensures ∙ found c.args.serial c.self.inside.entries c.self.invariant ∙ ap (find (has_serial c.args.serial)) c.self.view_is
