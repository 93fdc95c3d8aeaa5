use Rattle.std.proofs.Common.{◌≡◌, Some, None, sym, ap, ◌∙◌}
use Rattle.std.specs.Prelude.{slice_get, option_and_then, option_map}
use Rattle.std.specs.Option.{option_copied}
use Rattle.conn_rows.specs.Stored.{plain_row, stored_in}
use Rattle.conn_rows.specs.Summaries.{pending_in, pending_of}
use Rattle.conn_rows.proofs.Plain.{pending_plain, row_of_state}
use Rattle.conn_rows.proofs.rows.Rows.pending.Goals as goal

pub returns-in_err-row : goal.returns-in_err-row
returns-in_err-row c =
    let none : stored_in c.args.id.serial (slice_get c.self.inside.frontends.items c.args.id.frontend) ≡ None =
    ap (λ xs. stored_in c.args.id.serial (slice_get xs c.args.id.frontend)) (sym c.as_slice.ensures.value) ∙ sym c.find_row.ensures ∙ ap option_copied c.in_err-row.was in
    ap (option_map pending_in) c.from_residual.ensures
    ∙ sym (ap (option_and_then pending_of) (row_of_state c.self.inside.frontends.items c.self.inside.kept.versions c.self.inside.tables c.args.self.now c.args.id c.self.view_is ∙ ap (option_map (plain_row c.self.inside.kept.versions)) none))

pub returns : goal.returns
returns c =
    let there : stored_in c.args.id.serial (slice_get c.self.inside.frontends.items c.args.id.frontend) ≡ Some c.in_ok-row.row.now =
    ap (λ xs. stored_in c.args.id.serial (slice_get xs c.args.id.frontend)) (sym c.as_slice.ensures.value) ∙ sym c.find_row.ensures ∙ ap option_copied c.in_ok-row.was in
    c.pending.ensures
    ∙ pending_plain c.self.inside.kept.versions c.in_ok-row.row.now
    ∙ sym (ap (option_and_then pending_of) (row_of_state c.self.inside.frontends.items c.self.inside.kept.versions c.self.inside.tables c.args.self.now c.args.id c.self.view_is ∙ ap (option_map (plain_row c.self.inside.kept.versions)) there))
