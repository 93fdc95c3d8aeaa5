use Rattle.std.proofs.Common.{◌≡◌, Some, sym, ap, ◌∙◌}
use Rattle.std.specs.Prelude.{slice_get, ◌==◌}
use Rattle.std.specs.Option.{option_copied}
use Rattle.conn_model.proofs.Lists.{any-at}
use Rattle.conn_versions.proofs.versions.has_server.Goals as goal

pub returns-in-Some : goal.returns-in-Some
returns-in-Some c same =
    let there : slice_get c.args.backend.now.servers c.args.number ≡ Some c.in-Some.server.now =
    ap (λ xs. slice_get xs c.args.number) (sym c.as_slice.ensures) ∙ sym c.item.ensures ∙ ap option_copied c.in-Some.is in
    any-at (λ server. server.line == c.args.line) c.args.backend.now.servers c.args.number c.in-Some.server.now there same
