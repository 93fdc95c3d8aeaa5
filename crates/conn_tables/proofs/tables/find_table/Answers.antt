use Rattle.std.proofs.Common.{◌≡◌, Some, length, refl, sym, ap, ◌∙◌}
use Rattle.std.specs.Prelude.{position, slice_get}
use Rattle.std.specs.Option.{option_copied}
use Rattle.std.proofs.lemmas.Option.{slice_get_read}
use Rattle.conn_model.proofs.Lists.{found_there, nowhere, position_within}
use Rattle.conn_tables.specs.Tables.{is_table}
use Rattle.conn_tables.proofs.tables.find_table.Goals as goal

pub returns-in_err-place : goal.returns-in_err-place
returns-in_err-place c =
    ap option_copied c.from_residual.ensures
    ∙ sym (nowhere (is_table c.args.id) c.args.tables.now (sym c.place_of.ensures ∙ c.in_err-place.was))

pub bounds-tables-place : goal.bounds-tables-place
bounds-tables-place c = position_within (is_table c.args.id) c.args.tables.now c.in_ok-place.place (sym c.place_of.ensures ∙ c.in_ok-place.was)

pub returns : goal.returns
returns c =
    let tables = c.args.tables.now in
    let place = c.in_ok-place.place in
    let at : position (is_table c.args.id) tables ≡ Some place = sym c.place_of.ensures ∙ c.in_ok-place.was in
    let there : slice_get tables place ≡ Some c.index-tables-place.result =
    slice_get_read tables (length tables) place c.index-tables-place.result refl (position_within (is_table c.args.id) tables place at) c.index-tables-place.is in
    sym (found_there (is_table c.args.id) tables place at ∙ there)
