use Rattle.std.proofs.Common.{◌++◌, ◌∙◌, ap}
use Rattle.std.specs.Prelude.{codes}
use Rattle.std.proofs.lemmas.Result.{on_ok_weaker}
use Rattle.text_core.specs.Decimal.{decimal}
use Rattle.whatif_core.proofs.TallyLemmas.{three_texts}
use Rattle.whatif_core.proofs.tally.write_failures.Goals as goal

pub returns : goal.returns
returns c =
    let out = c.args.out.now.items in
    let first = codes "\nlost " ++ decimal c.args.lost in
    let second = codes "\nsaved " ++ decimal c.args.saved in
    on_ok_weaker c.write_text.result
    (λ is. is ∙ ap (λ xs. xs ++ codes "\n") (c.in_ok-write_count-2.ensures ∙ ap (λ xs. xs ++ second) c.in_ok-write_count.ensures) ∙ three_texts out first second (codes "\n"))
    c.write_text.ensures
