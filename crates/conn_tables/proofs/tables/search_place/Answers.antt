use Rattle.std.proofs.Common.{◌≡◌, true, Some, refl, length, sym, ◌∙◌}
use Rattle.std.specs.Prelude.{slice_get}
use Rattle.std.proofs.lemmas.Option.{slice_get_read}
use Rattle.conn_tables.specs.Tables.{is_table}
use Rattle.conn_tables.proofs.TableLemmas.{incarnation_place}
use Rattle.conn_tables.proofs.tables.search_place.Goals as goal

pub returns-in-Some : goal.returns-in-Some
returns-in-Some c =
    let tables = c.args.tables.now in
    let place = c.partition_point-place.result in
    let stored = c.in-Some.stored.now in
    let at = c.in-Some.ensures.lookup in
    let there : slice_get tables place ≡ Some stored = slice_get_read tables (length tables) place stored refl at.3.0 at.1 in
    let is : is_table c.args.id stored ≡ true = sym c.eq.ensures ∙ c.if-eq.true in
    sym (incarnation_place c.args.id tables c.requires place stored there is)
