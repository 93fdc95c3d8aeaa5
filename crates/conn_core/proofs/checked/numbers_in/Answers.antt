use Rattle.std.proofs.Common.{◌≡◌, ◌∙◌, ◌<◌, Some, length, refl, sym}
use Rattle.std.specs.Prelude.{position, slice_get}
use Rattle.std.specs.Str.{bytes_eq}
use Rattle.std.proofs.lemmas.Option.{slice_get_read}
use Rattle.plan_types.specs.declared.plan.Backend.{Backend}
use Rattle.conn_model.proofs.Lists.{position_within}
use Rattle.conn_core.specs.Checked.{backend_number, is_checked_as, known_by}
use Rattle.conn_core.proofs.checked.numbers_in.Goals as goal

pub returns : goal.returns
returns c =
    let backends = c.args.plan.now.backends in
    let backend : Backend = c.index-backends-place.result in
    let place = c.in_ok-place.place in
    let known = known_by c.args.known.now in
    let number : backend_number known.backend c.args.plan.now ≡ Some place =
    rw (c.as_slice-backends.ensures, c.as_slice.ensures) at (sym c.backend_place.ensures ∙ c.in_ok-place.was) in
    let within : place < length backends = position_within (λ (b : Backend). bytes_eq b.name known.backend) backends place number in
    let there : slice_get backends place ≡ Some backend =
    slice_get_read backends (length backends) place backend refl within (rw c.as_slice-backends.ensures at c.index-backends-place.is) in
    let own : position (is_checked_as known backend) backend.servers ≡ Some c.in_ok-own.own = sym c.server_place.ensures ∙ c.in_ok-own.was in
    rw (number, there, own) refl
