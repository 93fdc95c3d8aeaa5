use Rattle.std.proofs.Common.{◌≡◌, ◌++◌, map}
use Rattle.keyed_list.specs.Entries.{items_of}
use Rattle.conn_rows.specs.Stored.{plain_row}
use Rattle.conn_rows.proofs.row_list.RowList.plain.Given as goal

abbrev pub invariant-loop-row : goal.invariant-loop-row
invariant-loop-row l = l.copies.items ++ map (plain_row l.versions) (items_of l.row-iterator) ≡ map (plain_row l.versions) l.self
