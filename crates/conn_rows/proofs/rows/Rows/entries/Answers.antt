use Rattle.std.proofs.Common.{◌≡◌, Some, None, ap, sym, subst, ◌∙◌}
use Rattle.std.specs.Prelude.{option_and_then, slice_get}
use Rattle.conn_model.specs.Counts.{AreInMemory}
use Rattle.conn_model.specs.Tables.{table_at}
use Rattle.conn_model.specs.Words.{newest}
use Rattle.conn_rows.specs.Value.{RowsValue}
use Rattle.conn_rows.proofs.rows.Rows.entries.Goals as goal

pub returns-in_err-id : goal.returns-in_err-id
returns-in_err-id c =
    let none : option_and_then (λ version. slice_get version.tables c.args.number) (newest c.args.self.now.versions) ≡ None = sym c.table_id.ensures ∙ c.in_err-id.was in
    subst (λ table. AreInMemory table c.from_residual.result) (sym (ap (option_and_then (table_at c.args.self.now.tables)) none)) c.from_residual.ensures

pub returns : goal.returns
returns c =
    let there : option_and_then (λ version. slice_get version.tables c.args.number) (newest c.args.self.now.versions) ≡ Some c.in_ok-id.id = sym c.table_id.ensures ∙ c.in_ok-id.was in
    subst (λ table. AreInMemory table c.entries.result) (sym (ap (option_and_then (table_at c.args.self.now.tables)) there))
    (subst (λ (v : RowsValue). AreInMemory (table_at v.tables c.in_ok-id.id) c.entries.result) c.self.view_is c.entries.ensures)
