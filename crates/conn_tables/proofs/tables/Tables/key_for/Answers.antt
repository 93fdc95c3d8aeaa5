use Rattle.std.proofs.Common.{◌≡◌, Some, None, sym, ap, subst, ◌∙◌}
use Rattle.std.specs.Prelude.{find, option_and_then}
use Rattle.std.specs.Option.{option_copied}
use Rattle.conn_tables.specs.Tables.{TablesDiffer, is_table, table_key}
use Rattle.conn_tables.proofs.TableLemmas.{stored_of, table_nowhere, table_there, trackers_of, tables_later}
use Rattle.conn_model.specs.Tables.{table_at}
use Rattle.conn_tables.proofs.tables.Tables.key_for.Goals as goal

pub find_table-requires : goal.find_table-requires
find_table-requires c = subst TablesDiffer (sym c.as_slice.ensures.value) c.self.invariant.differ

there : (c : goal.In_ok-stored) → find (is_table c.args.id) c.self.inside.tables.items ≡ Some c.in_ok-stored.stored.now
there c = ap (λ xs. find (is_table c.args.id) xs) (sym c.as_slice.ensures.value) ∙ sym c.find_table.ensures ∙ ap option_copied c.in_ok-stored.was

there_then : (c : goal.After-key_for) → find (is_table c.args.id) c.self.inside.tables.items ≡ Some c.in_ok-stored.stored.now
there_then c = ap (λ xs. find (is_table c.args.id) xs) (sym c.as_slice.ensures.value) ∙ sym c.find_table.ensures ∙ ap option_copied c.in_ok-stored.was

pub returns-in_err-stored : goal.returns-in_err-stored
returns-in_err-stored c =
    let none : find (is_table c.args.id) c.self.inside.tables.items ≡ None =
    ap (λ xs. find (is_table c.args.id) xs) (sym c.as_slice.ensures.value) ∙ sym c.find_table.ensures ∙ ap option_copied c.in_err-stored.was in
    rw (← c.self.view_is)
    (λ moment tracks later counted.
    c.from_residual.ensures
    ∙ sym (ap (option_and_then (table_key tracks c.args.addr.now))
    (ap (λ ts. table_at ts c.args.id) (sym (tables_later c.self.inside.clock moment c.self.inside.spare c.self.inside.tables.items tracks later c.self.invariant counted))
    ∙ table_nowhere moment c.args.id c.self.inside.tables.items none)))

pub key_for-requires-clause-kind : goal.key_for-requires-clause-kind
key_for-requires-clause-kind c = (stored_of c.self.inside.clock c.self.inside.spare c.args.id c.self.inside.tables.items c.in_ok-stored.stored.now (there c) c.self.invariant.each).kind

pub key_for-requires-clause-size : goal.key_for-requires-clause-size
key_for-requires-clause-size c = (stored_of c.self.inside.clock c.self.inside.spare c.args.id c.self.inside.tables.items c.in_ok-stored.stored.now (there c) c.self.invariant.each).size

pub returns : goal.returns
returns c =
    rw (← c.self.view_is)
    (λ moment tracks later counted.
    c.key_for.ensures moment tracks (trackers_of c.args.id c.self.inside.tables.items c.in_ok-stored.stored.now tracks (there_then c) counted)
    ∙ sym (ap (option_and_then (table_key tracks c.args.addr.now))
    (ap (λ ts. table_at ts c.args.id) (sym (tables_later c.self.inside.clock moment c.self.inside.spare c.self.inside.tables.items tracks later c.self.invariant counted))
    ∙ table_there moment c.args.id c.self.inside.tables.items c.in_ok-stored.stored.now (there_then c))))
