use Rattle.std.proofs.Common.{◌≡◌, [], false, ◌∙◌}
use Rattle.std.specs.Prelude.{Ok}
use Rattle.std.specs.List.{slice_split}
use Rattle.std.proofs.lemmas.Result.{err_from_is_err_and}
use Rattle.list_core.specs.Each.{each}
use Rattle.acl_core.specs.Tokens.{is_or, tokens_of}
use Rattle.acl_core.specs.Reading.{group_of}
use Rattle.acl_core.proofs.GroupLemmas.{fails_early}
use Rattle.acl_core.proofs.grouping.condition.Goals as goal

pub returns-in_err-groups : goal.returns-in_err-groups
returns-in_err-groups c =
    let p = err_from_is_err_and c.from_residual-in_err-groups.result c.from_residual-in_err-groups.ensures.1 in
    let same : c.as_slice.result.now ≡ tokens_of c.args.words.now = c.as_slice.ensures ∙ c.in_ok-tokens.ensures in
    rw (p.1, p.2, ← same)
    (fails_early c.in_err-groups.field-0.0 (each (λ done group. group_of c.args.known.now false group) [] (slice_split is_or c.as_slice.result.now)) (λ groups. Ok (record { groups = groups })) (rw c.new.ensures at c.in_err-groups.ensures))
