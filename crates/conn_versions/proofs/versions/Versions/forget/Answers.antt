use Rattle.std.proofs.Common.{◌≡◌, None, Some, ap, sym, subst, ◌∙◌}
use Rattle.std.specs.Prelude.{filter, find, position, ◌==◌}
use Rattle.conn_model.proofs.Lists.{nowhere}
use Rattle.conn_model.specs.Words.{Rise}
use Rattle.conn_versions.specs.Versions.{has_number}
use Rattle.conn_versions.proofs.Changes.{has_other, kept_without, none_removed, removed, version_found}
use Rattle.conn_versions.proofs.Judged.{judged-removed}
use Rattle.std.proofs.lemmas.Bool.{false≢true}
use Rattle.conn_versions.proofs.versions.Versions.forget.Goals as goal

pub place_of-requires : goal.place_of-requires
place_of-requires c = subst (Rise (λ version. version.number)) (sym c.as_slice.ensures.value) c.self.invariant.kept.rise

pub invariant_of-self : goal.invariant_of-self
invariant_of-self c =
    let is : position (has_number c.args.number) c.self.inside.versions.items ≡ Some c.in-Some.place =
    ap (position (has_number c.args.number)) (sym c.as_slice.ensures.value) ∙ sym c.place_of.ensures ∙ c.in-Some.is in
    rw (c.remove-version.ensures.items, c.remove-picks.ensures.items)
    (record {
      kept = kept_without c.args.number c.self.inside.slots c.self.inside.versions.items c.self.inside.picks.items c.in-Some.place c.self.invariant.kept is;
      busy = λ known. absurd (false≢true known);
    })

pub returns-in-Some-clause-versions : goal.returns-in-Some-clause-versions
returns-in-Some-clause-versions c =
    let is : position (has_number c.args.number) c.self.inside.versions.items ≡ Some c.in-Some.place =
    ap (position (has_number c.args.number)) (sym c.as_slice.ensures.value) ∙ sym c.place_of.ensures ∙ c.in-Some.is in
    c.remove-version.ensures.items ∙ sym (removed c.args.number c.self.inside.versions.items c.in-Some.place c.self.invariant.kept.rise is)
    ∙ ap (λ v. filter (has_other c.args.number) v.versions) c.self.view_is

pub returns-in_default-clause-versions : goal.returns-in_default-clause-versions
returns-in_default-clause-versions c =
    let none : find (has_number c.args.number) c.self.inside.versions.items ≡ None =
    nowhere (has_number c.args.number) c.self.inside.versions.items (ap (position (has_number c.args.number)) (sym c.as_slice.ensures.value) ∙ sym c.place_of.ensures ∙ c.in_default.is) in
    sym (none_removed c.args.number c.args.self.now.versions (ap (λ v. find (has_number c.args.number) v.versions) (sym c.self.view_is) ∙ none))

pub returns-in-Some-clause-judged : goal.returns-in-Some-clause-judged
returns-in-Some-clause-judged c =
    let is : position (has_number c.args.number) c.self.inside.versions.items ≡ Some c.in-Some.place =
    ap (position (has_number c.args.number)) (sym c.as_slice.ensures.value) ∙ sym c.place_of.ensures ∙ c.in-Some.is in
    let found = version_found c.args.number c.self.inside.versions.items c.in-Some.place is in
    rw (c.remove-version.ensures.items, c.remove-picks.ensures.items, ← c.self.view_is)
    (λ other differs.
    judged-removed c.self.inside.versions.items c.self.inside.picks.items c.in-Some.place found.0 other c.self.invariant.kept.many found.1 (ap (λ n. other == n) found.2 ∙ differs))
