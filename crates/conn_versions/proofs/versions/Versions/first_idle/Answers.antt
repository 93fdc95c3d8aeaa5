use Rattle.std.proofs.Common.{◌<◌, length, ap, sym, ◌∙◌, arith}
use Rattle.std.specs.Prelude.{nat_lt, ◌==◌, ◌||◌}
use Rattle.std.proofs.lemmas.Option.{slice_get_within}
use Rattle.conn_versions.specs.Judged.{is_in_use, judged_of}
use Rattle.conn_versions.specs.Kept.{connections_of}
use Rattle.conn_versions.specs.Versions.{VersionsValue}
use Rattle.conn_versions.proofs.Judged.{kept_place, one_more_passes, place_kept, read_count}
use Rattle.conn_versions.proofs.versions.Versions.first_idle.Goals as goal

pub returns-then-not-is_in_use-clause-some : goal.returns-then-not-is_in_use-clause-some
returns-then-not-is_in_use-clause-some c =
    let versions = c.self.inside.versions.items in
    let version = c.version-item.result in
    let within : c.loop-place.place < length versions = let less = c.loop-place-test.true in let same = ap length c.deref-version-items.ensures.value in omega (arith, less, same) in
    let at =
    read_count c.self.inside.slots versions c.self.inside.picks.items c.loop-place.place version c.index.result.now c.self.invariant.kept within (rw c.deref-version-items.ensures.value at c.version-item.is)
    c.index.ensures in
    rw (← c.self.view_is)
    (place_kept versions c.loop-place.place version at.0, ap (λ n. (version.number == c.args.force) || nat_lt 0 n) at.1 ∙ sym c.is_in_use.ensures ∙ c.if-not-is_in_use.true)

pub loop-place-preserved : goal.loop-place-preserved
loop-place-preserved c =
    let versions = c.self.inside.versions.items in
    let version = c.version-item.result in
    let within : c.loop-place.place < length versions = let less = c.loop-place-test.true in let same = ap length c.deref-version-items.ensures.value in omega (arith, less, same) in
    let at =
    read_count c.self.inside.slots versions c.self.inside.picks.items c.loop-place.place version c.index.result.now c.self.invariant.kept within (rw c.deref-version-items.ensures.value at c.version-item.is)
    c.index.ensures in
    let kept : VersionsValue = record { versions = versions; counts = c.self.inside.slots; judged = connections_of c.self.inside.picks.items } in
    let before = rw (← c.self.view_is) at c.loop-place.invariant in
    rw (← c.self.view_is)
    (one_more_passes (is_in_use (judged_of kept) c.args.force) versions c.loop-place.place version before at.0
    (ap (λ n. (version.number == c.args.force) || nat_lt 0 n) at.1 ∙ sym c.is_in_use.ensures ∙ c.if-not-is_in_use.false))

pub returns-clause-none : goal.returns-clause-none
returns-clause-none c = λ number some.
    let kept : VersionsValue = c.args.self.now in
    let at = kept_place kept.versions number some in
    let within = slice_get_within kept.versions at.0 at.1 at.2 in
    let past = c.loop-place-test.false in
    let same = ap length (c.deref-version-items.ensures.value ∙ ap (λ (v : VersionsValue). v.versions) c.self.view_is) in
    ap (is_in_use (judged_of kept) c.args.force) (sym at.3) ∙ c.loop-place.invariant at.0 at.1 (omega (arith, within, past, same)) at.2
