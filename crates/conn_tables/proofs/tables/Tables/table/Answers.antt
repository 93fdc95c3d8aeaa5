use Rattle.std.proofs.Common.{◌≡◌, Some, None, sym, ap, subst, ◌∙◌}
use Rattle.std.specs.Prelude.{find, option_map}
use Rattle.std.specs.Option.{option_copied}
use Rattle.conn_tables.specs.Tables.{TablesDiffer, is_table}
use Rattle.conn_tables.proofs.TableLemmas.{table_nowhere, table_there}
use Rattle.conn_tables.proofs.tables.Tables.table.Goals as goal

pub find_table-requires : goal.find_table-requires
find_table-requires c = subst TablesDiffer (sym c.as_slice.ensures.value) c.self.invariant.differ

pub returns-in_err-stored : goal.returns-in_err-stored
returns-in_err-stored c =
    let none : find (is_table c.args.id) c.self.inside.tables.items ≡ None =
    ap (λ xs. find (is_table c.args.id) xs) (sym c.as_slice.ensures.value) ∙ sym c.find_table.ensures ∙ ap option_copied c.in_err-stored.was in
    rw (← c.self.view_is)
    (ap option_copied c.from_residual.ensures ∙ sym (ap (option_map (λ table. table.table)) (table_nowhere c.self.inside.clock c.args.id c.self.inside.tables.items none)))

pub returns : goal.returns
returns c =
    let there : find (is_table c.args.id) c.self.inside.tables.items ≡ Some c.in_ok-stored.stored.now =
    ap (λ xs. find (is_table c.args.id) xs) (sym c.as_slice.ensures.value) ∙ sym c.find_table.ensures ∙ ap option_copied c.in_ok-stored.was in
    rw (← c.self.view_is)
    (sym (ap (option_map (λ table. table.table)) (table_there c.self.inside.clock c.args.id c.self.inside.tables.items c.in_ok-stored.stored.now there)))
