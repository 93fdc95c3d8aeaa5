use Rattle.std.proofs.Common.{◌≡◌, Some, None, sym, ap, ◌∙◌}
use Rattle.std.specs.Prelude.{find, slice_get, option_and_then}
use Rattle.std.specs.Option.{option_copied}
use Rattle.conn_model.specs.Settings.{settings_at, settings_in}
use Rattle.conn_rows.specs.Stored.{has_serial, line_of}
use Rattle.conn_rows.proofs.SettingsLemmas.{own_settings, settings_is, stored_settings}
use Rattle.conn_rows.proofs.rows.Rows.settings.Goals as goal

pub returns-in_err-own : goal.returns-in_err-own
returns-in_err-own c =
    let none : slice_get c.self.inside.frontends.items c.args.id.frontend ≡ None =
    ap (λ xs. slice_get xs c.args.id.frontend) (sym c.as_slice.ensures.value) ∙ sym c.item.ensures ∙ ap option_copied c.in_err-own.was in
    c.from_residual.ensures
    ∙ sym (ap (λ s. settings_in s.frontends s.versions c.args.id) (sym c.self.view_is)
    ∙ settings_is c.self.inside.kept.versions c.self.inside.frontends.items c.args.id
    ∙ ap (option_and_then (own_settings c.self.inside.kept.versions c.args.id.serial)) none)

pub returns-in_err-row : goal.returns-in_err-row
returns-in_err-row c =
    let own = c.in_ok-own.own.now in
    let own_there : slice_get c.self.inside.frontends.items c.args.id.frontend ≡ Some own =
    ap (λ xs. slice_get xs c.args.id.frontend) (sym c.as_slice.ensures.value) ∙ sym c.item.ensures ∙ ap option_copied c.in_ok-own.was in
    let none : find (has_serial c.args.id.serial) own.rows ≡ None = sym c.row.ensures ∙ ap option_copied c.in_err-row.was in
    c.from_residual-in_err-row.ensures
    ∙ sym (ap (λ s. settings_in s.frontends s.versions c.args.id) (sym c.self.view_is)
    ∙ settings_is c.self.inside.kept.versions c.self.inside.frontends.items c.args.id
    ∙ ap (option_and_then (own_settings c.self.inside.kept.versions c.args.id.serial)) own_there
    ∙ ap (option_and_then (stored_settings c.self.inside.kept.versions own.name)) none)

pub returns : goal.returns
returns c =
    let own = c.in_ok-own.own.now in
    let row = c.in_ok-row.row.now in
    let own_there : slice_get c.self.inside.frontends.items c.args.id.frontend ≡ Some own =
    ap (λ xs. slice_get xs c.args.id.frontend) (sym c.as_slice.ensures.value) ∙ sym c.item.ensures ∙ ap option_copied c.in_ok-own.was in
    let row_there : find (has_serial c.args.id.serial) own.rows ≡ Some row = sym c.row.ensures ∙ ap option_copied c.in_ok-row.was in
    c.settings.ensures
    ∙ ap (λ name. settings_at c.as_slice-2.result.now row.version name (line_of row.stage)) c.name.ensures
    ∙ ap (λ versions. settings_at versions row.version own.name (line_of row.stage)) c.as_slice-2.ensures.versions
    ∙ sym (ap (λ s. settings_in s.frontends s.versions c.args.id) (sym c.self.view_is)
    ∙ settings_is c.self.inside.kept.versions c.self.inside.frontends.items c.args.id
    ∙ ap (option_and_then (own_settings c.self.inside.kept.versions c.args.id.serial)) own_there
    ∙ ap (option_and_then (stored_settings c.self.inside.kept.versions own.name)) row_there)
