use Rattle.std.proofs.Common.{◌≡◌, ◌<◌, refl, ap, sym, ◌∙◌, subst}
use Rattle.std.specs.List.{AllByRecursion}
use Rattle.std.specs.Option.{option_copied}
use Rattle.std.proofs.lemmas.Bool.{false≢true}
use Rattle.conn_model.specs.declared.plain.Version.{Version}
use Rattle.conn_model.specs.History.{next_version}
use Rattle.conn_model.specs.Tables.{written_tables}
use Rattle.conn_versions.specs.declared.versions.VersionPicks.{VersionPicks}
use Rattle.conn_versions.specs.Kept.{connections_of}
use Rattle.conn_versions.proofs.Changes.{kept_adding, kept_open, kept_with}
use Rattle.conn_versions.proofs.Judged.{judged-none, judged-push, none-above}
use Rattle.conn_versions.proofs.versions.Versions.push.Goals as goal

pub invariant_of-self : goal.invariant_of-self
invariant_of-self c = record {
  kept = kept_adding c.self.inside.slots c.in_ok-named.named c.picks_of_all.new.slots c.picks_of_all.new.named c.self.inside.versions.items c.self.inside.picks.items c.in_ok-named.ensures.many
      (rw c.as_slice-2.ensures.value at c.in_ok-named.ensures.noted) c.picks_of_all.ensures.keeps c.self.invariant.kept;
  busy = c.self.invariant.busy;
}

pub invariant_of-self-in_err-try_reserve : goal.invariant_of-self-in_err-try_reserve
invariant_of-self-in_err-try_reserve c =
    rw c.try_reserve.ensures.items
    (record {
      kept = kept_adding c.self.inside.slots c.in_ok-named.named c.picks_of_all.new.slots c.picks_of_all.new.named c.self.inside.versions.items c.self.inside.picks.items c.in_ok-named.ensures.many
          (rw c.as_slice-2.ensures.value at c.in_ok-named.ensures.noted) c.picks_of_all.ensures.keeps c.self.invariant.kept;
      busy = c.self.invariant.busy;
    })

pub returns-in_err-try_reserve-clause-identities : goal.returns-in_err-try_reserve-clause-identities
returns-in_err-try_reserve-clause-identities c = kept_open c.self.inside.slots c.in_ok-named.named c.picks_of_all.new.slots c.picks_of_all.new.named c.args.self.now.counts c.picks_of_all.ensures.keeps (ap (λ v. v.counts) c.self.view_is)

pub invariant_of-self-in_err-try_reserve-2 : goal.invariant_of-self-in_err-try_reserve-2
invariant_of-self-in_err-try_reserve-2 c =
    rw (c.try_reserve.ensures.items, c.try_reserve-2.ensures.items)
    (record {
      kept = kept_adding c.self.inside.slots c.in_ok-named.named c.picks_of_all.new.slots c.picks_of_all.new.named c.self.inside.versions.items c.self.inside.picks.items c.in_ok-named.ensures.many
          (rw c.as_slice-2.ensures.value at c.in_ok-named.ensures.noted) c.picks_of_all.ensures.keeps c.self.invariant.kept;
      busy = c.self.invariant.busy;
    })

pub returns-in_err-try_reserve-2-clause-identities : goal.returns-in_err-try_reserve-2-clause-identities
returns-in_err-try_reserve-2-clause-identities c = kept_open c.self.inside.slots c.in_ok-named.named c.picks_of_all.new.slots c.picks_of_all.new.named c.args.self.now.counts c.picks_of_all.ensures.keeps (ap (λ v. v.counts) c.self.view_is)

pub invariant_of-self-2 : goal.invariant_of-self-2
invariant_of-self-2 c =
    let own : VersionPicks = record { backends = c.in_ok-backends.backends; connections = 0 } in
    let next : Version = next_version c.args.number (written_tables (option_copied c.newest-before.result)) c.args.plan in
    let is : c.in_ok-version.version ≡ next = c.in_ok-version.ensures in
    let backends : c.as_slice-3.result.now ≡ c.args.plan.backends = c.as_slice-3.ensures ∙ ap (λ v. v.plan.backends) is in
    let below : AllByRecursion (λ version. version.number < c.args.number) c.self.inside.versions.items =
    subst (λ v. AllByRecursion (λ version. version.number < c.args.number) v.versions) (sym c.self.view_is) c.requires.next in
    let tied = rw backends at c.in_ok-backends.ensures.tied in
    let counted = rw backends at c.in_ok-backends.ensures.counted in
    rw (c.push_reserved.ensures.items, c.push_reserved-2.ensures.items, c.try_reserve.ensures.items, c.try_reserve-2.ensures.items, is)
    (record {
      kept = kept_with c.picks_of_all.new.slots c.self.inside.versions.items c.self.inside.picks.items next own
          (kept_adding c.self.inside.slots c.in_ok-named.named c.picks_of_all.new.slots c.picks_of_all.new.named c.self.inside.versions.items c.self.inside.picks.items c.in_ok-named.ensures.many
          (rw c.as_slice-2.ensures.value at c.in_ok-named.ensures.noted) c.picks_of_all.ensures.keeps c.self.invariant.kept)
          below c.requires.sound (record { tied = tied; counted = counted });
      busy = λ known. absurd (false≢true known);
    })

pub returns-clause-identities : goal.returns-clause-identities
returns-clause-identities c = kept_open c.self.inside.slots c.in_ok-named.named c.picks_of_all.new.slots c.picks_of_all.new.named c.args.self.now.counts c.picks_of_all.ensures.keeps (ap (λ v. v.counts) c.self.view_is)

pub returns-clause-judged : goal.returns-clause-judged
returns-clause-judged c =
    let own : VersionPicks = record { backends = c.in_ok-backends.backends; connections = 0 } in
    rw (c.push_reserved.ensures.items, c.push_reserved-2.ensures.items, c.try_reserve.ensures.items, c.try_reserve-2.ensures.items, ← c.self.view_is)
    (judged-push c.self.inside.versions.items c.self.inside.picks.items c.in_ok-version.version own c.self.invariant.kept.many refl)

pub returns-clause-begins : goal.returns-clause-begins
returns-clause-begins c =
    let own : VersionPicks = record { backends = c.in_ok-backends.backends; connections = 0 } in
    let below : AllByRecursion (λ version. version.number < c.args.number) c.self.inside.versions.items =
    subst (λ v. AllByRecursion (λ version. version.number < c.args.number) v.versions) (sym c.self.view_is) c.requires.next in
    rw (c.push_reserved.ensures.items, c.push_reserved-2.ensures.items, c.try_reserve.ensures.items, c.try_reserve-2.ensures.items)
    (judged-push c.self.inside.versions.items c.self.inside.picks.items c.in_ok-version.version own c.self.invariant.kept.many refl c.args.number
    ∙ judged-none c.self.inside.versions.items (connections_of c.self.inside.picks.items) c.args.number (none-above c.self.inside.versions.items c.args.number below))
