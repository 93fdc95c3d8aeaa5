use Rattle.std.proofs.Common.{◌≡◌, Some, None, sym, ap, ◌∙◌}
use Rattle.std.specs.Prelude.{slice_get, option_map}
use Rattle.std.specs.Option.{option_copied}
use Rattle.rule_engine.specs.Meaning.{present}
use Rattle.conn_rows.specs.Stored.{plain_row, stored_in}
use Rattle.conn_tables.specs.Tracks.{slots_of}
use Rattle.conn_rows.proofs.Plain.{row_of_state}
use Rattle.conn_rows.proofs.rows.Rows.tracks.Goals as goal

none : (c : goal.After-from_residual) → stored_in c.args.id.serial (slice_get c.self.inside.frontends.items c.args.id.frontend) ≡ None
none c = ap (λ xs. stored_in c.args.id.serial (slice_get xs c.args.id.frontend)) (sym c.as_slice.ensures.value) ∙ sym c.find_row.ensures ∙ ap option_copied c.in_err-row.was

there : (c : goal.After-slots) → stored_in c.args.id.serial (slice_get c.self.inside.frontends.items c.args.id.frontend) ≡ Some c.in_ok-row.row.now
there c = ap (λ xs. stored_in c.args.id.serial (slice_get xs c.args.id.frontend)) (sym c.as_slice.ensures.value) ∙ sym c.find_row.ensures ∙ ap option_copied c.in_ok-row.was

pub returns-in_err-row-clause-slots : goal.returns-in_err-row-clause-slots
returns-in_err-row-clause-slots c =
    c.from_residual.ensures
    ∙ sym (ap (option_map (λ row. slots_of row.tracks)) (row_of_state c.self.inside.frontends.items c.self.inside.kept.versions c.self.inside.tables c.args.self.now c.args.id c.self.view_is ∙ ap (option_map (plain_row c.self.inside.kept.versions)) (none c)))

pub returns-in_err-row-clause-present : goal.returns-in_err-row-clause-present
returns-in_err-row-clause-present c =
    ap (option_map present) c.from_residual.ensures
    ∙ sym (ap (option_map (λ row. row.tracks)) (row_of_state c.self.inside.frontends.items c.self.inside.kept.versions c.self.inside.tables c.args.self.now c.args.id c.self.view_is ∙ ap (option_map (plain_row c.self.inside.kept.versions)) (none c)))

pub returns-clause-slots : goal.returns-clause-slots
returns-clause-slots c =
    ap (λ s. Some s) c.slots.ensures.slots
    ∙ sym (ap (option_map (λ row. slots_of row.tracks)) (row_of_state c.self.inside.frontends.items c.self.inside.kept.versions c.self.inside.tables c.args.self.now c.args.id c.self.view_is ∙ ap (option_map (plain_row c.self.inside.kept.versions)) (there c)))

pub returns-clause-present : goal.returns-clause-present
returns-clause-present c =
    ap (λ s. Some s) c.slots.ensures.present
    ∙ sym (ap (option_map (λ row. row.tracks)) (row_of_state c.self.inside.frontends.items c.self.inside.kept.versions c.self.inside.tables c.args.self.now c.args.id c.self.view_is ∙ ap (option_map (plain_row c.self.inside.kept.versions)) (there c)))
