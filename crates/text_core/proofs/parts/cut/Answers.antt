use Rattle.std.proofs.Common.{ap, sym, ◌∙◌, Some, arith, take}
use Rattle.std.proofs.lemmas.List.{take_rest}
use Rattle.text_core.proofs.CutLemmas.{cut_at, cut_none, tail_past}
use Rattle.text_core.proofs.parts.cut.Goals as goal

pub returns-then-begins_with-clause-parts : goal.returns-then-begins_with-clause-parts
returns-then-begins_with-clause-parts c = sym (
    cut_at c.args.mark.now c.args.text.now c.loop-at.at c.loop-at-test.true c.loop-at.invariant (rw take_rest at (sym c.if-begins_with.ensures))
    ∙ ap (λ back. Some (take c.loop-at.at c.args.text.now, back)) (tail_past c.args.mark.now c.args.text.now c.loop-at.at)
    )

pub returns-clause-parts : goal.returns-clause-parts
returns-clause-parts c = sym (cut_none c.args.mark.now c.args.text.now (λ k lt. c.loop-at.invariant k (omega arith)))
