use Rattle.std.proofs.Common.{◌≡◌, ◌+◌, None, refl, ap, sym, subst, ◌∙◌, arith}
use Rattle.std.specs.Prelude.{position}
use Rattle.conn_model.specs.Answer.{version_at}
use Rattle.conn_model.proofs.Lists.{nowhere}
use Rattle.conn_model.specs.Words.{Rise}
use Rattle.conn_versions.specs.Judged.{judged_by, judged_in}
use Rattle.conn_versions.specs.Kept.{connections_of}
use Rattle.conn_versions.specs.Versions.{has_number}
use Rattle.conn_versions.proofs.Judged.{found_count, judged-more, judged-other, kept_counting, not_kept, FoundCount}
use Rattle.conn_versions.specs.declared.versions.VersionPicks.{VersionPicks}
use Rattle.conn_versions.proofs.Busy.{busy_set}
use Rattle.conn_versions.proofs.versions.Versions.enter.Goals as goal

pub place_of-requires : goal.place_of-requires
place_of-requires c = subst (Rise (λ version. version.number)) (sym c.as_slice.ensures.value) c.self.invariant.kept.rise

found : (c : goal.After-index_mut) → FoundCount c.self.inside.versions.items c.self.inside.picks.items c.args.number c.in-Some.place c.index_mut.result.now
found c =
    found_count c.self.inside.slots c.self.inside.versions.items c.self.inside.picks.items c.args.number c.in-Some.place c.index_mut.result.now c.self.invariant.kept
    (ap (position (has_number c.args.number)) (sym c.as_slice.ensures.value) ∙ sym c.place_of.ensures ∙ c.in-Some.is) c.index_mut.ensures.value

found_after : (c : goal.After-self-1) → FoundCount c.self.inside.versions.items c.self.inside.picks.items c.args.number c.in-Some.place c.index_mut.result.now
found_after c =
    found_count c.self.inside.slots c.self.inside.versions.items c.self.inside.picks.items c.args.number c.in-Some.place c.index_mut.result.now c.self.invariant.kept
    (ap (position (has_number c.args.number)) (sym c.as_slice.ensures.value) ∙ sym c.place_of.ensures ∙ c.in-Some.is) c.index_mut.ensures.value

pub overflow_add-index_mut : goal.overflow_add-index_mut
overflow_add-index_mut c =
    let at = found c in
    let below = rw (← c.self.view_is) at c.requires.below in
    let less = below at.kept in
    let is = at.judged in
    omega (arith, less, is)

pub returns-in_default-clause-judged : goal.returns-in_default-clause-judged
returns-in_default-clause-judged c =
    let none : version_at c.self.inside.versions.items c.args.number ≡ None =
    nowhere (has_number c.args.number) c.self.inside.versions.items (ap (position (has_number c.args.number)) (sym c.as_slice.ensures.value) ∙ sym c.place_of.ensures ∙ c.in_default.is) in
    rw (← c.self.view_is) (λ other some.
    let nothing = judged-other other c.args.number (not_kept c.self.inside.versions.items c.args.number other none some) in
    omega (arith, nothing))

pub invariant_of-self : goal.invariant_of-self
invariant_of-self c =
    let at = found_after c in
    let own = c.index_mut.result.now in
    let next : VersionPicks = record own { connections = own.connections + 1 } in
    record {
      kept = kept_counting c.self.inside.slots c.self.inside.versions.items c.self.inside.picks.items c.in-Some.place own next at.own_there refl c.self.invariant.kept;
      busy = λ known. busy_set c.self.inside.picks.items c.in-Some.place own next at.own_there (λ some. omega (arith, some)) (c.self.invariant.busy known);
    }

pub returns-in-Some-clause-judged : goal.returns-in-Some-clause-judged
returns-in-Some-clause-judged c =
    let versions = c.self.inside.versions.items in
    let all = c.self.inside.picks.items in
    let own = c.index_mut.result.now in
    let at = found_after c in
    rw (← c.self.view_is) (λ other some.
    judged-more versions all c.in-Some.place at.version own (record own { connections = own.connections + 1 }) c.self.invariant.kept.rise at.there at.own_there refl other
    ∙ ap (λ n. judged_in versions (connections_of all) other + judged_by other n) at.named)
