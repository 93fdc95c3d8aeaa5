use Rattle.std.proofs.Common.{◌≡◌, ◌<◌, Some, length, refl, sym, subst}
use Rattle.std.specs.Prelude.{slice_get}
use Rattle.std.proofs.lemmas.Option.{slice_get_read}
use Rattle.conn_versions.proofs.Places.{line_place}
use Rattle.conn_versions.proofs.versions.place_with.Goals as goal

pub returns-in-Some : goal.returns-in-Some
returns-in-Some c =
    let backends = c.args.plan.now.backends in
    let place = c.in-Some.place in
    let backend = c.index-backends-place.result in
    let same = c.as_slice-backends.ensures in
    let within : place < length backends = subst (λ all. place < length all) same c.in-Some.ensures in
    let there : slice_get backends place ≡ Some backend =
    slice_get_read backends (length backends) place backend refl within (rw same at c.index-backends-place.is) in
    sym (line_place c.args.plan.now c.requires c.args.line place backend there (c.has_server.ensures c.if-has_server.true))
