use Rattle.std.proofs.Common.{◌≡◌, Some, sym, ap, ◌∙◌}
use Rattle.std.specs.Prelude.{slice_get, ◌==◌}
use Rattle.std.specs.Option.{option_copied}
use Rattle.conn_model.proofs.Lists.{any-at}
use Rattle.conn_rows.proofs.settings.has_place.Goals as goal

pub returns-in-Some : goal.returns-in-Some
returns-in-Some c same =
    let there : slice_get c.args.backend.now.servers c.args.place.number ≡ Some c.in-Some.server.now =
    ap (λ xs. slice_get xs c.args.place.number) (sym c.as_slice.ensures) ∙ sym c.item.ensures ∙ ap option_copied c.in-Some.is in
    any-at (λ server. server.line == c.args.place.line) c.args.backend.now.servers c.args.place.number c.in-Some.server.now there same
