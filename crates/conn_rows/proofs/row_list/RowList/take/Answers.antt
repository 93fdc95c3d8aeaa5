use Rattle.std.proofs.Common.{◌≡◌, ◌+◌, ℕ, List, Option, Some, None, ap, ◌∙◌}
use Rattle.std.specs.Prelude.{filter, find, not, IfSome}
use Rattle.keyed_list.specs.Entries as keyed
use Rattle.keyed_list.specs.Entries.{items_of}
use Rattle.conn_model.specs.Counts.{total}
use Rattle.conn_rows.specs.Stored.{has_serial}
use Rattle.conn_rows.specs.declared.row.StoredRow.{StoredRow}
use Rattle.conn_rows.proofs.RowLists.{counted, found, left, listed-without}
use Rattle.conn_rows.proofs.row_list.RowList.take.Goals as goal

pub invariant_of-self : goal.invariant_of-self
invariant_of-self c = listed-without c.args.serial c.self.inside.entries c.take.new.self c.take.ensures.left c.self.invariant

pub returns-clause-row : goal.returns-clause-row
returns-clause-row c = c.take.ensures.item ∙ found c.args.serial c.self.inside.entries c.self.invariant ∙ ap (find (has_serial c.args.serial)) c.self.view_is

pub returns-clause-left : goal.returns-clause-left
returns-clause-left c =
    ap items_of c.take.ensures.left ∙ left c.args.serial c.self.inside.entries c.self.invariant ∙ ap (filter (λ row. not (has_serial c.args.serial row))) c.self.view_is

-- what is counted of entries, of their rows
counts : (o : Option StoredRow) (serial : ℕ) (es new' : List (ℕ × StoredRow)) (rows : List StoredRow) → items_of es ≡ rows →
    IfSome o (λ row. (worth : ℕ × StoredRow → ℕ) → keyed.total worth new' + worth (serial, row) ≡ keyed.total worth es) → IfSome o (λ row. (worth : StoredRow → ℕ) → total worth (items_of new') + worth row ≡ total worth rows)
counts None serial es new' rows is known = tt
counts (Some row) serial es new' rows is known = λ worth. counted es new' serial row known worth ∙ ap (total worth) is

pub returns-clause-counts : goal.returns-clause-counts
returns-clause-counts c = counts c.take.result c.args.serial c.self.inside.entries c.take.new.self c.args.self.now c.self.view_is c.take.ensures.counts
