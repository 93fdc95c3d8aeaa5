use Rattle.std.proofs.Common.{◌<◌, sym, subst}
use Rattle.std.specs.List.{AllByRecursion}
use Rattle.conn_rows.proofs.RowLists.{below-keys}
use Rattle.conn_rows.proofs.row_list.RowList.push.Goals as goal

pub push-pushed-requires : goal.push-pushed-requires
push-pushed-requires c = below-keys c.args.row.serial c.self.inside.entries c.self.invariant.numbered (subst (λ rows. AllByRecursion (λ own. own.serial < c.args.row.serial) rows) (sym c.self.view_is) c.requires)
