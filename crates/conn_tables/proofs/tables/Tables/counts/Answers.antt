use Rattle.std.proofs.Common.{◌≡◌, Some, None, sym, ap, subst, ◌∙◌, ◌≤◌, arith}
use Rattle.std.specs.Prelude.{find, option_map}
use Rattle.std.specs.Option.{option_copied}
use Rattle.conn_model.specs.Tables.{entry_counts, table_at}
use Rattle.conn_tables.specs.Tables.{TablesDiffer, is_table}
use Rattle.conn_tables.proofs.TableLemmas.{stored_of, table_nowhere, table_there, trackers_of, tables_later}
use Rattle.conn_tables.proofs.tables.Tables.counts.Goals as goal

pub find_table-requires : goal.find_table-requires
find_table-requires c = subst TablesDiffer (sym c.as_slice.ensures.value) c.self.invariant.differ

there : (c : goal.In_ok-stored) → find (is_table c.args.id) c.self.inside.tables.items ≡ Some c.in_ok-stored.stored.now
there c = ap (λ xs. find (is_table c.args.id) xs) (sym c.as_slice.ensures.value) ∙ sym c.find_table.ensures ∙ ap option_copied c.in_ok-stored.was

there_then : (c : goal.After-counts) → find (is_table c.args.id) c.self.inside.tables.items ≡ Some c.in_ok-stored.stored.now
there_then c = ap (λ xs. find (is_table c.args.id) xs) (sym c.as_slice.ensures.value) ∙ sym c.find_table.ensures ∙ ap option_copied c.in_ok-stored.was

pub returns-in_err-stored : goal.returns-in_err-stored
returns-in_err-stored c =
    let none : find (is_table c.args.id) c.self.inside.tables.items ≡ None =
    ap (λ xs. find (is_table c.args.id) xs) (sym c.as_slice.ensures.value) ∙ sym c.find_table.ensures ∙ ap option_copied c.in_err-stored.was in
    let same = ap (λ t. t.clock) c.self.view_is in
    let later : c.self.inside.clock ≤ c.args.moment = omega (arith, same, c.requires) in
    rw (← c.self.view_is)
    (λ tracks counted.
    c.from_residual.ensures
    ∙ sym (ap (option_map (entry_counts tracks c.args.addr.now))
    (ap (λ ts. table_at ts c.args.id) (sym (tables_later c.self.inside.clock c.args.moment c.self.inside.spare c.self.inside.tables.items tracks later c.self.invariant counted))
    ∙ table_nowhere c.args.moment c.args.id c.self.inside.tables.items none)))

pub counts-requires-clause-past : goal.counts-requires-clause-past
counts-requires-clause-past c =
    let past = (stored_of c.self.inside.clock c.self.inside.spare c.args.id c.self.inside.tables.items c.in_ok-stored.stored.now (there c) c.self.invariant.each).past in
    let same = ap (λ t. t.clock) c.self.view_is in
    omega (arith, past, same, c.requires)

pub counts-requires-clause-kind : goal.counts-requires-clause-kind
counts-requires-clause-kind c = (stored_of c.self.inside.clock c.self.inside.spare c.args.id c.self.inside.tables.items c.in_ok-stored.stored.now (there c) c.self.invariant.each).kind

pub returns : goal.returns
returns c =
    let same = ap (λ t. t.clock) c.self.view_is in
    let later : c.self.inside.clock ≤ c.args.moment = omega (arith, same, c.requires) in
    rw (← c.self.view_is)
    (λ tracks counted.
    ap (λ n. Some n) (c.counts.ensures tracks (trackers_of c.args.id c.self.inside.tables.items c.in_ok-stored.stored.now tracks (there_then c) counted))
    ∙ sym (ap (option_map (entry_counts tracks c.args.addr.now))
    (ap (λ ts. table_at ts c.args.id) (sym (tables_later c.self.inside.clock c.args.moment c.self.inside.spare c.self.inside.tables.items tracks later c.self.invariant counted))
    ∙ table_there c.args.moment c.args.id c.self.inside.tables.items c.in_ok-stored.stored.now (there_then c))))
