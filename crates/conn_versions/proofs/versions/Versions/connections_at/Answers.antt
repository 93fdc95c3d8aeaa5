use Rattle.std.proofs.Common.{◌≡◌, ◌<◌, ◌≤◌, ◌+◌, [], Some, None, length, sym, ap, ◌∙◌, arith}
use Rattle.std.specs.Prelude.{option_and_then, slice_get}
use Rattle.std.proofs.lemmas.Option.{slice_get_past}
use Rattle.conn_model.specs.Counts.{newest_backend}
use Rattle.conn_model.specs.Words.{newest}
use Rattle.conn_versions.specs.Versions.{VersionsValue, connections_in, open_to}
use Rattle.conn_versions.proofs.Founds.{backend_there, newest_there, within_own}
use Rattle.conn_versions.proofs.versions.Versions.connections_at.Goals as goal

pub index-requires : goal.index-requires
index-requires c =
    let less = c.if-number-len.false in
    let len = c.len.ensures in
    let last : c.in_ok-place.place + 1 ≡ length c.self.inside.versions.items = c.in_ok-place.ensures.some ∙ ap length c.as_slice.ensures.value in
    let kept = newest_there c.self.inside.slots c.self.inside.versions.items c.self.inside.picks.items c.in_ok-place.place c.index-kept.result.now c.index-own.result.now c.self.invariant.kept last c.index-kept.ensures c.index-own.ensures in
    let own = within_own c.self.inside.slots c.index-kept.result.now c.index-own.result.now.backends.items c.from-number.result kept.is (omega (arith, less, len)) in
    let is = c.index-own.result.now.backends.ok.0 in
    omega (arith, own, is)

pub connections_at-requires : goal.connections_at-requires
connections_at-requires c =
    let less = c.if-number-len.false in
    let len = c.len.ensures in
    let last : c.in_ok-place.place + 1 ≡ length c.self.inside.versions.items = c.in_ok-place.ensures.some ∙ ap length c.as_slice.ensures.value in
    let kept = newest_there c.self.inside.slots c.self.inside.versions.items c.self.inside.picks.items c.in_ok-place.place c.index-kept.result.now c.index-own.result.now c.self.invariant.kept last c.index-kept.ensures c.index-own.ensures in
    (backend_there c.self.inside.slots c.index-kept.result.now c.index-own.result.now c.from-number.result c.index-as_slice-number.result c.index.result.now c.self.invariant.kept.apart kept.is kept.sound
    (omega (arith, less, len)) (rw c.as_slice-2.ensures at c.index-as_slice-number.is) c.index.ensures).served

pub returns-in_err-place : goal.returns-in_err-place
returns-in_err-place c =
    let none : c.self.inside.versions.items ≡ [] = sym c.as_slice.ensures.value ∙ c.in_err-place.ensures.none in
    rw (← c.self.view_is)
    (c.from_residual.ensures
    ∙ sym (ap (λ versions. connections_in (open_to c.self.inside.slots) (newest_backend versions c.args.backend) c.args.server) none))

pub returns : goal.returns
returns c =
    let less = c.if-number-len.false in
    let len = c.len.ensures in
    let last : c.in_ok-place.place + 1 ≡ length c.self.inside.versions.items = c.in_ok-place.ensures.some ∙ ap length c.as_slice.ensures.value in
    let kept = newest_there c.self.inside.slots c.self.inside.versions.items c.self.inside.picks.items c.in_ok-place.place c.index-kept.result.now c.index-own.result.now c.self.invariant.kept last c.index-kept.ensures c.index-own.ensures in
    let at = (backend_there c.self.inside.slots c.index-kept.result.now c.index-own.result.now c.from-number.result c.index-as_slice-number.result c.index.result.now c.self.invariant.kept.apart kept.is kept.sound
    (omega (arith, less, len)) (rw c.as_slice-2.ensures at c.index-as_slice-number.is) c.index.ensures).at in
    rw (← c.self.view_is)
    (c.connections_at.ensures
    ∙ ap (λ found. connections_in (open_to c.self.inside.slots) found c.args.server)
    (sym at ∙ ap (slice_get c.index-kept.result.now.plan.backends) c.from-number.ensures
    ∙ sym (ap (option_and_then (λ version. slice_get version.plan.backends c.args.backend)) kept.newest_is)))

pub returns-then-number-len : goal.returns-then-number-len
returns-then-number-len c =
    let past = c.if-number-len.true in
    let len = c.len.ensures in
    let number = c.from-number.ensures in
    let last : c.in_ok-place.place + 1 ≡ length c.self.inside.versions.items = c.in_ok-place.ensures.some ∙ ap length c.as_slice.ensures.value in
    let kept = newest_there c.self.inside.slots c.self.inside.versions.items c.self.inside.picks.items c.in_ok-place.place c.index-kept.result.now c.index-own.result.now c.self.invariant.kept last c.index-kept.ensures c.index-own.ensures in
    let none : newest_backend c.self.inside.versions.items c.args.backend ≡ None =
    ap (option_and_then (λ version. slice_get version.plan.backends c.args.backend)) kept.newest_is
    ∙ slice_get_past c.index-kept.result.now.plan.backends c.args.backend (omega (arith, past, len, number)) in
    rw (← c.self.view_is) (sym (ap (λ found. connections_in (open_to c.self.inside.slots) found c.args.server) none))
