use Rattle.std.proofs.Common.{◌≡◌, Some, None, ap, sym, ◌∙◌, refl}
use Rattle.std.specs.Prelude.{slice_get}
use Rattle.std.specs.Option.{option_copied}
use Rattle.conn_model.specs.Counts.{newest_backend}
use Rattle.conn_core.proofs.machine.Core.checked.Goals as goal

pub returns : goal.returns
returns c =
    let backend : newest_backend c.args.self.now.versions c.args.number ≡ Some c.in-Some.backend.now = sym c.backend.ensures ∙ ap option_copied c.in-Some.is in
    let server : slice_get c.in-Some.backend.now.servers c.args.place ≡ Some c.in-Some-item.server.now = ap (λ xs. slice_get xs c.args.place) (sym c.as_slice.ensures) ∙ sym c.item.ensures ∙ ap option_copied c.in-Some-item.is in
    rw (backend, server, c.in-Some-check.is) refl
