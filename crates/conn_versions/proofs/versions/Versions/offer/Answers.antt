use Rattle.std.proofs.Common.{◌≡◌, ◌+◌, Some, None, refl, ap, sym, ◌∙◌, arith, subst}
use Rattle.std.specs.Prelude.{find, position, slice_get, slice_set}
use Rattle.slot_core.specs.Counts.{identity_at}
use Rattle.plan_types.specs.Lines.{has_line}
use Rattle.conn_model.specs.Answer.{version_at}
use Rattle.conn_model.specs.History.{with_offer}
use Rattle.conn_model.specs.Servers.{identity_in}
use Rattle.conn_model.specs.Words.{Rise}
use Rattle.conn_versions.specs.declared.versions.VersionPicks.{VersionPicks}
use Rattle.conn_versions.specs.Versions.{has_number, HasServer}
use Rattle.conn_versions.specs.Kept.{IsKept}
use Rattle.list_core.proofs.Items.{one_item}
use Rattle.conn_model.proofs.Lists.{nowhere, position_within}
use Rattle.conn_versions.proofs.Identities.{identity-changed, identity_within}
use Rattle.conn_versions.proofs.Judged.{judged-moved}
use Rattle.conn_versions.proofs.Moves.{kept_moved, offered, one_version, still_kept}
use Rattle.conn_versions.proofs.Busy.{busy_set}
use Rattle.conn_versions.proofs.Founds.{found_server, found_version, version_there, within_own}
use Rattle.conn_versions.proofs.versions.Versions.offer.Goals as goal

pub place_of-requires : goal.place_of-requires
place_of-requires c = subst (Rise (λ version. version.number)) (sym c.as_slice.ensures.value) c.self.invariant.kept.rise

pub unreachable-requires : goal.unreachable-requires
unreachable-requires c =
    let none : version_at c.self.inside.versions.items c.args.version ≡ None =
    nowhere (has_number c.args.version) c.self.inside.versions.items (ap (position (has_number c.args.version)) (sym c.as_slice.ensures.value) ∙ sym c.place_of.ensures ∙ c.in_default.is) in
    let some : version_at c.self.inside.versions.items c.args.version ≡ Some c.requires.there.kept = ap (λ v. version_at v.versions c.args.version) c.self.view_is ∙ c.requires.there.version_is in
    let wrong : None ≡ Some c.requires.there.kept = sym none ∙ some in
    cc

pub unreachable-requires-in_default-place_with : goal.unreachable-requires-in_default-place_with
unreachable-requires-in_default-place_with c =
    let there : HasServer c.self.inside.versions.items c.args.version c.args.line c.args.server =
    subst (λ vs. HasServer vs c.args.version c.args.line c.args.server) (sym (ap (λ v. v.versions) c.self.view_is)) c.requires.there in
    let position_is = ap (position (has_number c.args.version)) (sym c.as_slice.ensures.value) ∙ sym c.place_of.ensures ∙ c.in-Some.is in
    let named : version_at c.self.inside.versions.items c.args.version ≡ Some c.index.result.now =
    version_there c.self.inside.versions.items c.args.version c.in-Some.place c.index.result.now position_is c.index.ensures in
    let same : there.kept ≡ c.index.result.now = one_item (version_at c.self.inside.versions.items c.args.version) there.kept c.index.result.now there.version_is named in
    let none : find (has_line c.args.line) c.index.result.now.plan.backends ≡ None =
    nowhere (has_line c.args.line) c.index.result.now.plan.backends (sym c.place_with.ensures ∙ c.in_default-place_with.is) in
    let wrong : None ≡ Some there.backend = sym none ∙ ap (λ v. find (has_line c.args.line) v.plan.backends) (sym same) ∙ there.backend_is in
    cc

pub index-requires-3 : goal.index-requires-3
index-requires-3 c =
    let version = found_version c.self.inside.slots c.self.inside.versions.items c.self.inside.picks.items c.args.version c.in-Some.place c.index.result.now c.index-2.result.now c.self.invariant.kept
    (ap (position (has_number c.args.version)) (sym c.as_slice.ensures.value) ∙ sym c.place_of.ensures ∙ c.in-Some.is) c.index.ensures c.index-2.ensures in
    let line : position (has_line c.args.line) c.index.result.now.plan.backends ≡ Some c.in-Some-place_with.number =
    sym c.place_with.ensures ∙ c.in-Some-place_with.is in
    let own = within_own c.self.inside.slots c.index.result.now c.index-2.result.now.backends.items c.in-Some-place_with.number version.is
    (position_within (has_line c.args.line) c.index.result.now.plan.backends c.in-Some-place_with.number line) in
    let is = c.index-2.result.now.backends.ok.0 in
    omega (arith, own, is)

pub slot_of-ix-requires : goal.slot_of-ix-requires
slot_of-ix-requires c =
    let version = found_version c.self.inside.slots c.self.inside.versions.items c.self.inside.picks.items c.args.version c.in-Some.place c.index.result.now c.index-2.result.now c.self.invariant.kept
    (ap (position (has_number c.args.version)) (sym c.as_slice.ensures.value) ∙ sym c.place_of.ensures ∙ c.in-Some.is) c.index.ensures c.index-2.ensures in
    let line : position (has_line c.args.line) c.index.result.now.plan.backends ≡ Some c.in-Some-place_with.number =
    sym c.place_with.ensures ∙ c.in-Some-place_with.is in
    let there : HasServer c.self.inside.versions.items c.args.version c.args.line c.args.server =
    subst (λ vs. HasServer vs c.args.version c.args.line c.args.server) (sym (ap (λ v. v.versions) c.self.view_is)) c.requires.there in
    let server = found_server c.self.inside.slots c.self.inside.versions.items c.self.inside.picks.items c.args.version c.args.line c.args.server c.in-Some.place c.in-Some-place_with.number
    c.index.result.now c.index-2.result.now c.index-3.result.now there version line c.index-3.ensures in
    server.below

pub move_cursor-requires-clause-tied : goal.move_cursor-requires-clause-tied
move_cursor-requires-clause-tied c =
    let moved = found_version c.self.inside.slots c.self.inside.versions.items c.self.inside.picks.items c.args.version c.in-Some.place c.index_mut-version.result.now c.index_mut.result.now c.self.invariant.kept
    (ap (position (has_number c.args.version)) (sym c.as_slice.ensures.value) ∙ sym c.place_of.ensures ∙ c.in-Some.is) c.index_mut-version.ensures.value c.index_mut.ensures.value in
    moved.is.tied

pub take-requires-clause-there : goal.take-requires-clause-there
take-requires-clause-there c =
    let version = found_version c.self.inside.slots c.self.inside.versions.items c.self.inside.picks.items c.args.version c.in-Some.place c.index.result.now c.index-2.result.now c.self.invariant.kept
    (ap (position (has_number c.args.version)) (sym c.as_slice.ensures.value) ∙ sym c.place_of.ensures ∙ c.in-Some.is) c.index.ensures c.index-2.ensures in
    let line : position (has_line c.args.line) c.index.result.now.plan.backends ≡ Some c.in-Some-place_with.number =
    sym c.place_with.ensures ∙ c.in-Some-place_with.is in
    let there : HasServer c.self.inside.versions.items c.args.version c.args.line c.args.server =
    subst (λ vs. HasServer vs c.args.version c.args.line c.args.server) (sym (ap (λ v. v.versions) c.self.view_is)) c.requires.there in
    let server = found_server c.self.inside.slots c.self.inside.versions.items c.self.inside.picks.items c.args.version c.args.line c.args.server c.in-Some.place c.in-Some-place_with.number
    c.index.result.now c.index-2.result.now c.index-3.result.now there version line c.index-3.ensures in
    identity_within c.self.inside.slots c.slot_of-ix.result.place (identity_in there.backend there.server) (server.counted c.slot_of-ix.result c.slot_of-ix.ensures)

pub invariant_of-self : goal.invariant_of-self
invariant_of-self c =
    let version = found_version c.self.inside.slots c.self.inside.versions.items c.self.inside.picks.items c.args.version c.in-Some.place c.index.result.now c.index-2.result.now c.self.invariant.kept
    (ap (position (has_number c.args.version)) (sym c.as_slice.ensures.value) ∙ sym c.place_of.ensures ∙ c.in-Some.is) c.index.ensures c.index-2.ensures in
    let line : position (has_line c.args.line) c.index.result.now.plan.backends ≡ Some c.in-Some-place_with.number =
    sym c.place_with.ensures ∙ c.in-Some-place_with.is in
    let moved = found_version c.self.inside.slots c.self.inside.versions.items c.self.inside.picks.items c.args.version c.in-Some.place c.index_mut-version.result.now c.index_mut.result.now c.self.invariant.kept
    (ap (position (has_number c.args.version)) (sym c.as_slice.ensures.value) ∙ sym c.place_of.ensures ∙ c.in-Some.is) c.index_mut-version.ensures.value c.index_mut.ensures.value in
    let same : c.index.result.now ≡ c.index_mut-version.result.now = one_item (slice_get c.self.inside.versions.items c.in-Some.place) c.index.result.now c.index_mut-version.result.now version.at moved.at in
    let next : c.move_cursor.new.version ≡ with_offer c.args.version c.args.line c.args.server c.index_mut-version.result.now =
    c.move_cursor.ensures.version
    ∙ sym (offered c.args.version c.args.line c.args.server c.index_mut-version.result.now c.in-Some-place_with.number moved.numbered (ap (λ v. position (has_line c.args.line) v.plan.backends) (sym same) ∙ line)) in
    let own : VersionPicks = record c.index_mut.result.now { backends = c.move_cursor.new.own } in
    let is : IsKept c.self.inside.slots (with_offer c.args.version c.args.line c.args.server c.index_mut-version.result.now) c.move_cursor.new.own.items =
    subst (λ v. IsKept c.self.inside.slots v c.move_cursor.new.own.items) next
    (record { tied = c.move_cursor.ensures.tied; counted = c.move_cursor.ensures.counted c.self.inside.slots moved.is.counted }) in
    rw (c.take.ensures.counts, next)
    (record {
      kept = still_kept (λ n. n + 1) _ c.self.inside.slots
          (slice_set c.self.inside.versions.items c.in-Some.place (with_offer c.args.version c.args.line c.args.server c.index_mut-version.result.now))
          (slice_set c.self.inside.picks.items c.in-Some.place own)
          (kept_moved c.args.version c.args.line c.args.server c.self.inside.slots c.self.inside.versions.items c.self.inside.picks.items c.in-Some.place c.index_mut-version.result.now own c.self.invariant.kept moved.at
          moved.numbered is);
      busy = λ known. busy_set c.self.inside.picks.items c.in-Some.place c.index_mut.result.now own moved.own_at (λ some. some) (c.self.invariant.busy known);
    })

pub returns-clause-versions : goal.returns-clause-versions
returns-clause-versions c =
    let version = found_version c.self.inside.slots c.self.inside.versions.items c.self.inside.picks.items c.args.version c.in-Some.place c.index.result.now c.index-2.result.now c.self.invariant.kept
    (ap (position (has_number c.args.version)) (sym c.as_slice.ensures.value) ∙ sym c.place_of.ensures ∙ c.in-Some.is) c.index.ensures c.index-2.ensures in
    let line : position (has_line c.args.line) c.index.result.now.plan.backends ≡ Some c.in-Some-place_with.number =
    sym c.place_with.ensures ∙ c.in-Some-place_with.is in
    let moved = found_version c.self.inside.slots c.self.inside.versions.items c.self.inside.picks.items c.args.version c.in-Some.place c.index_mut-version.result.now c.index_mut.result.now c.self.invariant.kept
    (ap (position (has_number c.args.version)) (sym c.as_slice.ensures.value) ∙ sym c.place_of.ensures ∙ c.in-Some.is) c.index_mut-version.ensures.value c.index_mut.ensures.value in
    let same : c.index.result.now ≡ c.index_mut-version.result.now = one_item (slice_get c.self.inside.versions.items c.in-Some.place) c.index.result.now c.index_mut-version.result.now version.at moved.at in
    let next : c.move_cursor.new.version ≡ with_offer c.args.version c.args.line c.args.server c.index_mut-version.result.now =
    c.move_cursor.ensures.version
    ∙ sym (offered c.args.version c.args.line c.args.server c.index_mut-version.result.now c.in-Some-place_with.number moved.numbered (ap (λ v. position (has_line c.args.line) v.plan.backends) (sym same) ∙ line)) in
    rw (next, ← c.self.view_is)
    (sym (one_version c.args.version c.args.line c.args.server c.self.inside.versions.items c.in-Some.place c.index_mut-version.result.now c.self.invariant.kept.rise moved.at moved.numbered))

pub returns-clause-slot : goal.returns-clause-slot
returns-clause-slot c =
    let version = found_version c.self.inside.slots c.self.inside.versions.items c.self.inside.picks.items c.args.version c.in-Some.place c.index.result.now c.index-2.result.now c.self.invariant.kept
    (ap (position (has_number c.args.version)) (sym c.as_slice.ensures.value) ∙ sym c.place_of.ensures ∙ c.in-Some.is) c.index.ensures c.index-2.ensures in
    let line : position (has_line c.args.line) c.index.result.now.plan.backends ≡ Some c.in-Some-place_with.number =
    sym c.place_with.ensures ∙ c.in-Some-place_with.is in
    let place = c.slot_of-ix.result.place in
    rw (c.take.ensures.slot, c.take.ensures.counts, ← c.self.view_is)
    (λ there. identity-changed (λ n. n + 1) place c.self.inside.slots place ∙ (found_server c.self.inside.slots c.self.inside.versions.items c.self.inside.picks.items c.args.version c.args.line c.args.server c.in-Some.place c.in-Some-place_with.number
    c.index.result.now c.index-2.result.now c.index-3.result.now there version line c.index-3.ensures).counted c.slot_of-ix.result c.slot_of-ix.ensures)

pub returns-clause-identities : goal.returns-clause-identities
returns-clause-identities c = λ place.
    ap (identity_at place) c.take.ensures.counts ∙ identity-changed (λ n. n + 1) _ c.self.inside.slots place ∙ ap (λ v. identity_at place v.counts) c.self.view_is

pub returns-clause-judged : goal.returns-clause-judged
returns-clause-judged c =
    let moved = found_version c.self.inside.slots c.self.inside.versions.items c.self.inside.picks.items c.args.version c.in-Some.place c.index_mut-version.result.now c.index_mut.result.now c.self.invariant.kept
    (ap (position (has_number c.args.version)) (sym c.as_slice.ensures.value) ∙ sym c.place_of.ensures ∙ c.in-Some.is) c.index_mut-version.ensures.value c.index_mut.ensures.value in
    let own : VersionPicks = record c.index_mut.result.now { backends = c.move_cursor.new.own } in
    rw (← c.self.view_is)
    (judged-moved c.self.inside.versions.items c.self.inside.picks.items c.in-Some.place c.index_mut-version.result.now c.move_cursor.new.version c.index_mut.result.now own moved.at moved.own_at
    (ap (λ v. v.number) c.move_cursor.ensures.version) refl)
