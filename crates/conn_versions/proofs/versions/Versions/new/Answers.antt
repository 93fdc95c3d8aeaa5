use Rattle.std.proofs.Common.{◌≡◌, ◌++◌, ◌∷◌, [], refl, ap, ◌∙◌}
use Rattle.conn_model.specs.History.{new_version}
use Rattle.conn_versions.specs.declared.versions.VersionPicks.{VersionPicks}
use Rattle.conn_versions.proofs.Judged.{judged-push}
use Rattle.conn_versions.proofs.Moves.{new_kept}
use Rattle.conn_versions.proofs.Written.{first_version}
use Rattle.std.proofs.lemmas.Bool.{false≢true}
use Rattle.conn_versions.proofs.versions.Versions.new.Goals as goal

pub invariant_of-result : goal.invariant_of-result
invariant_of-result c =
    let own : VersionPicks = record { backends = c.in_ok-backends.backends; connections = 0 } in
    let all : c.push.new.self.items ≡ own ∷ [] = c.in_ok-push.ensures.items ∙ ap (λ xs. xs ++ own ∷ []) c.new-picks.ensures.items in
    let versions : c.push-2.new.self.items ≡ new_version 1 c.args.plan ∷ [] =
    c.in_ok-push-2.ensures.items ∙ ap (λ xs. xs ++ c.in_ok-version_after.field-0 ∷ []) c.new-versions.ensures.items
    ∙ ap (λ v. v ∷ []) (c.in_ok-version_after.ensures ∙ first_version 1 c.args.plan) in
    let plan = rw c.as_slice.ensures at c.in_ok-backends.ensures.tied in
    let counted = rw c.as_slice.ensures at c.in_ok-backends.ensures.counted in
    rw (versions, all)
    (record {
      kept = new_kept c.picks_of_all.new.slots (new_version 1 c.args.plan) own c.in_ok-backends.ensures.keeps.apart c.requires (record { tied = plan; counted = counted });
      busy = λ known. absurd (false≢true known);
    })

pub returns-clause-versions : goal.returns-clause-versions
returns-clause-versions c =
    c.in_ok-push-2.ensures.items ∙ ap (λ xs. xs ++ c.in_ok-version_after.field-0 ∷ []) c.new-versions.ensures.items
    ∙ ap (λ v. v ∷ []) (c.in_ok-version_after.ensures ∙ first_version 1 c.args.plan)

pub returns-clause-judged : goal.returns-clause-judged
returns-clause-judged c =
    let own : VersionPicks = record { backends = c.in_ok-backends.backends; connections = 0 } in
    let all : c.push.new.self.items ≡ own ∷ [] = c.in_ok-push.ensures.items ∙ ap (λ xs. xs ++ own ∷ []) c.new-picks.ensures.items in
    let versions : c.push-2.new.self.items ≡ c.in_ok-version_after.field-0 ∷ [] = c.in_ok-push-2.ensures.items ∙ ap (λ xs. xs ++ c.in_ok-version_after.field-0 ∷ []) c.new-versions.ensures.items in
    rw (versions, all) (judged-push [] [] c.in_ok-version_after.field-0 own refl refl)
