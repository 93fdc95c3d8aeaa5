use Rattle.std.proofs.Common.{◌≡◌, ◌<◌, Some, None, length, ap, sym, subst, ◌∙◌, arith}
use Rattle.std.specs.Prelude.{option_map, position, slice_get}
use Rattle.std.proofs.lemmas.Option.{slice_get_within}
use Rattle.conn_model.specs.Answer.{version_at}
use Rattle.conn_model.specs.Servers.{cursor_at, pick_in}
use Rattle.conn_model.specs.Words.{Rise}
use Rattle.conn_versions.specs.Versions.{has_number, open_to}
use Rattle.list_core.proofs.Items.{one_item}
use Rattle.conn_model.proofs.Lists.{nowhere}
use Rattle.conn_versions.proofs.Founds.{found_backend, found_version, within_own, FoundBackend, FoundVersion}
use Rattle.conn_versions.proofs.versions.Versions.pick.Goals as goal
use Rattle.conn_versions.specs.Barred.{is_barred}

pub place_of-requires : goal.place_of-requires
place_of-requires c = subst (Rise (λ version. version.number)) (sym c.as_slice.ensures.value) c.self.invariant.kept.rise

found : (c : goal.After-cursor_at) → FoundVersion c.self.inside.slots c.self.inside.versions.items c.self.inside.picks.items c.args.version c.in_ok-place.place c.index-kept.result.now c.index-own.result.now
found c =
    found_version c.self.inside.slots c.self.inside.versions.items c.self.inside.picks.items c.args.version c.in_ok-place.place c.index-kept.result.now c.index-own.result.now c.self.invariant.kept
    (ap (position (has_number c.args.version)) (sym c.as_slice.ensures.value) ∙ sym c.place_of.ensures ∙ c.in_ok-place.was) c.index-kept.ensures c.index-own.ensures

pub index-requires : goal.index-requires
index-requires c =
    let less = c.if-number-len.true in
    let len = c.len.ensures in
    let own = within_own c.self.inside.slots c.index-kept.result.now c.index-own.result.now.backends.items c.from-number.result (found c).is (omega (arith, less, len)) in
    let is = c.index-own.result.now.backends.ok.0 in
    omega (arith, own, is)

picks : (c : goal.After-index) → FoundBackend c.self.inside.slots c.index-kept.result.now c.from-number.result c.index-as_slice-number.result c.index.result.now
picks c =
    let less = c.if-number-len.true in
    let len = c.len.ensures in
    let version = found_version c.self.inside.slots c.self.inside.versions.items c.self.inside.picks.items c.args.version c.in_ok-place.place c.index-kept.result.now c.index-own.result.now c.self.invariant.kept
    (ap (position (has_number c.args.version)) (sym c.as_slice.ensures.value) ∙ sym c.place_of.ensures ∙ c.in_ok-place.was) c.index-kept.ensures c.index-own.ensures in
    found_backend c.self.inside.slots c.self.inside.versions.items c.self.inside.picks.items c.args.version c.in_ok-place.place c.from-number.result c.index-kept.result.now c.index-own.result.now
    c.index-as_slice-number.result c.index.result.now c.self.invariant.kept version (omega (arith, less, len)) (rw c.as_slice-then-number-len.ensures at c.index-as_slice-number.is) c.index.ensures

pub pick-requires-clause-served : goal.pick-requires-clause-served
pick-requires-clause-served c = (picks c).served

pub pick-requires-clause-tied : goal.pick-requires-clause-tied
pick-requires-clause-tied c = rw (c.cursor_at.ensures, c.as_slice-then-number-len-2.ensures) (picks c).tied

pub returns-in_err-place-clause-picked : goal.returns-in_err-place-clause-picked
returns-in_err-place-clause-picked c =
    let none : version_at c.self.inside.versions.items c.args.version ≡ None =
    nowhere (has_number c.args.version) c.self.inside.versions.items (ap (position (has_number c.args.version)) (sym c.as_slice.ensures.value) ∙ sym c.place_of.ensures ∙ c.in_err-place.was) in
    rw (← c.self.view_is) (λ kept backend is there. absurd (let wrong : None ≡ Some kept = sym none ∙ is in cc))

pub returns-then-number-len-clause-picked : goal.returns-then-number-len-clause-picked
returns-then-number-len-clause-picked c =
    let version = found_version c.self.inside.slots c.self.inside.versions.items c.self.inside.picks.items c.args.version c.in_ok-place.place c.index-kept.result.now c.index-own.result.now c.self.invariant.kept
    (ap (position (has_number c.args.version)) (sym c.as_slice.ensures.value) ∙ sym c.place_of.ensures ∙ c.in_ok-place.was) c.index-kept.ensures c.index-own.ensures in
    let less = c.if-number-len.true in
    let len = c.len.ensures in
    let at = (found_backend c.self.inside.slots c.self.inside.versions.items c.self.inside.picks.items c.args.version c.in_ok-place.place c.from-number.result c.index-kept.result.now c.index-own.result.now
    c.index-as_slice-number.result c.index.result.now c.self.invariant.kept version (omega (arith, less, len)) (rw c.as_slice-then-number-len.ensures at c.index-as_slice-number.is) c.index.ensures).at in
    rw (← c.self.view_is) (λ kept backend is there.
    let same : c.index-kept.result.now ≡ kept = one_item (version_at c.self.inside.versions.items c.args.version) c.index-kept.result.now kept version.named is in
    let own : c.index-as_slice-number.result ≡ backend =
    one_item (slice_get c.index-kept.result.now.plan.backends c.args.backend) c.index-as_slice-number.result backend (ap (slice_get c.index-kept.result.now.plan.backends) (sym c.from-number.ensures) ∙ at)
    (ap (λ v. slice_get v.plan.backends c.args.backend) same ∙ there) in
    let cursor : c.cursor_at.result ≡ cursor_at kept.cursors c.args.backend =
    c.cursor_at.ensures ∙ ap (λ cs. cursor_at cs c.from-number.result) c.as_slice-then-number-len-2.ensures ∙ ap (cursor_at c.index-kept.result.now.cursors) c.from-number.ensures
    ∙ ap (λ v. cursor_at v.cursors c.args.backend) same in
    c.pick.ensures ∙ ap (λ b. option_map (λ turn. turn.server) (pick_in (open_to c.self.inside.slots) (is_barred c.args.barred.down.now c.args.barred.lines.now) b c.cursor_at.result c.args.source.now)) own
    ∙ ap (λ last. option_map (λ turn. turn.server) (pick_in (open_to c.self.inside.slots) (is_barred c.args.barred.down.now c.args.barred.lines.now) backend last c.args.source.now)) cursor)

pub returns-else-number-len-clause-picked : goal.returns-else-number-len-clause-picked
returns-else-number-len-clause-picked c =
    let version = found_version c.self.inside.slots c.self.inside.versions.items c.self.inside.picks.items c.args.version c.in_ok-place.place c.index-kept.result.now c.index-own.result.now c.self.invariant.kept
    (ap (position (has_number c.args.version)) (sym c.as_slice.ensures.value) ∙ sym c.place_of.ensures ∙ c.in_ok-place.was) c.index-kept.ensures c.index-own.ensures in
    let past = c.if-number-len.false in
    let len = c.len.ensures in
    let number = c.from-number.ensures in
    rw (← c.self.view_is) (λ kept backend is there.
    let same : c.index-kept.result.now ≡ kept = one_item (version_at c.self.inside.versions.items c.args.version) c.index-kept.result.now kept version.named is in
    let less : c.args.backend < length c.index-kept.result.now.plan.backends =
    slice_get_within c.index-kept.result.now.plan.backends c.args.backend backend (ap (λ v. slice_get v.plan.backends c.args.backend) same ∙ there) in
    absurd (omega (arith, less, past, len, number)))

pub returns-then-number-len-clause-no_version : goal.returns-then-number-len-clause-no_version
returns-then-number-len-clause-no_version c =
    let version = found_version c.self.inside.slots c.self.inside.versions.items c.self.inside.picks.items c.args.version c.in_ok-place.place c.index-kept.result.now c.index-own.result.now c.self.invariant.kept
    (ap (position (has_number c.args.version)) (sym c.as_slice.ensures.value) ∙ sym c.place_of.ensures ∙ c.in_ok-place.was) c.index-kept.ensures c.index-own.ensures in
    rw (← c.self.view_is) (λ none. absurd (let wrong : None ≡ Some c.index-kept.result.now = sym none ∙ version.named in cc))

pub returns-then-number-len-clause-no_backend : goal.returns-then-number-len-clause-no_backend
returns-then-number-len-clause-no_backend c =
    let version = found_version c.self.inside.slots c.self.inside.versions.items c.self.inside.picks.items c.args.version c.in_ok-place.place c.index-kept.result.now c.index-own.result.now c.self.invariant.kept
    (ap (position (has_number c.args.version)) (sym c.as_slice.ensures.value) ∙ sym c.place_of.ensures ∙ c.in_ok-place.was) c.index-kept.ensures c.index-own.ensures in
    let less = c.if-number-len.true in
    let len = c.len.ensures in
    let at = (found_backend c.self.inside.slots c.self.inside.versions.items c.self.inside.picks.items c.args.version c.in_ok-place.place c.from-number.result c.index-kept.result.now c.index-own.result.now
    c.index-as_slice-number.result c.index.result.now c.self.invariant.kept version (omega (arith, less, len)) (rw c.as_slice-then-number-len.ensures at c.index-as_slice-number.is) c.index.ensures).at in
    rw (← c.self.view_is) (λ kept is none.
    let same : c.index-kept.result.now ≡ kept = one_item (version_at c.self.inside.versions.items c.args.version) c.index-kept.result.now kept version.named is in
    let there : slice_get kept.plan.backends c.args.backend ≡ Some c.index-as_slice-number.result =
    ap (λ v. slice_get v.plan.backends c.args.backend) (sym same) ∙ ap (slice_get c.index-kept.result.now.plan.backends) (sym c.from-number.ensures) ∙ at in
    absurd (let wrong : None ≡ Some c.index-as_slice-number.result = sym none ∙ there in cc))
