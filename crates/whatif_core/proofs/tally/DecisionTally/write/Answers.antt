use Rattle.std.proofs.Common.{◌++◌, ◌∙◌, ap}
use Rattle.std.specs.List.{flat_map}
use Rattle.std.proofs.lemmas.Result.{on_ok_weaker}
use Rattle.whatif_core.specs.Sums.{changed_text, failures_text, others_text, pair_line, sums_text}
use Rattle.whatif_core.proofs.TallyLemmas.{four_texts}
use Rattle.whatif_core.proofs.tally.DecisionTally.write.Goals as goal

pub returns : goal.returns
returns c =
    let out = c.args.out.now.items in
    let tally = c.self.inside in
    let pairs = flat_map pair_line tally.pairs.items in
    let changed = changed_text tally.changed tally.accepted in
    let others = others_text tally.other_server tally.let_in in
    let failures = failures_text tally.lost tally.saved in
    let first = rw c.as_slice.ensures.value at c.in_ok-write_pairs.ensures in
    on_ok_weaker c.write_failures.result
    (λ is.
    is
    ∙ ap (λ xs. xs ++ failures) (c.in_ok-write_others.ensures ∙ ap (λ xs. xs ++ others) (c.in_ok-write_changed.ensures ∙ ap (λ xs. xs ++ changed) first))
    ∙ four_texts out pairs changed others failures
    ∙ ap (λ sums. out ++ sums_text sums) c.self.view_is)
    c.write_failures.ensures
