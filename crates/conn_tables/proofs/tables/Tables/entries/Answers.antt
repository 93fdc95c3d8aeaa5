use Rattle.std.proofs.Common.{◌≡◌, Some, None, refl, sym, ap, subst, ◌∙◌}
use Rattle.std.specs.Prelude.{find}
use Rattle.std.specs.Option.{option_copied}
use Rattle.conn_model.specs.Counts.{AreInMemory}
use Rattle.conn_tables.specs.Tables.{TablesDiffer, is_table}
use Rattle.conn_tables.proofs.TableLemmas.{has_in_memory, stored_of, table_nowhere, table_there}
use Rattle.conn_tables.proofs.tables.Tables.entries.Goals as goal

pub find_table-requires : goal.find_table-requires
find_table-requires c = subst TablesDiffer (sym c.as_slice.ensures.value) c.self.invariant.differ

pub returns-in_err-stored : goal.returns-in_err-stored
returns-in_err-stored c =
    let none : find (is_table c.args.id) c.self.inside.tables.items ≡ None =
    ap (λ xs. find (is_table c.args.id) xs) (sym c.as_slice.ensures.value) ∙ sym c.find_table.ensures ∙ ap option_copied c.in_err-stored.was in
    rw (← c.self.view_is)
    (subst (λ table. AreInMemory table c.from_residual.result) (sym (table_nowhere c.self.inside.clock c.args.id c.self.inside.tables.items none)) c.from_residual.ensures)

pub returns : goal.returns
returns c =
    let there : find (is_table c.args.id) c.self.inside.tables.items ≡ Some c.in_ok-stored.stored.now =
    ap (λ xs. find (is_table c.args.id) xs) (sym c.as_slice.ensures.value) ∙ sym c.find_table.ensures ∙ ap option_copied c.in_ok-stored.was in
    rw (← c.self.view_is)
    (subst (λ table. AreInMemory table (Some c.in_memory.result)) (sym (table_there c.self.inside.clock c.args.id c.self.inside.tables.items c.in_ok-stored.stored.now there)) (
      c.in_memory.result,
      refl,
      has_in_memory c.self.inside.clock c.self.inside.spare c.in_memory.result c.in_ok-stored.stored.now
          (stored_of c.self.inside.clock c.self.inside.spare c.args.id c.self.inside.tables.items c.in_ok-stored.stored.now there c.self.invariant.each)
          c.in_memory.ensures.least c.in_memory.ensures.most c.in_memory.ensures.exact,
    ))
