use Rattle.std.proofs.Common.{◌≡◌, ◌+◌, length, Some, arith, ap, ◌∙◌, sym}
use Rattle.pp_v1.specs.declared.meaning.Meaning.TheVariants.{Real}
use Rattle.pp_any.specs.Status.{Whole}
use Rattle.pp_any.proofs.Heads.{head_alone, head_declares, head_skips}
use Rattle.pp_any.proofs.head.feed_block.Goals as goal

pub returns-then-missing-eq0-clause-answers : goal.returns-then-missing-eq0-clause-answers
returns-then-missing-eq0-clause-answers c = λ b there.
    let none : length b ≡ length b + 0 = omega arith in
    (omega arith, head_alone b c.args.piece.now c.args.head there c.requires (omega arith) ∙ ap (λ n. Whole n Real) none)

pub returns-in-Some-clause-answers : goal.returns-in-Some-clause-answers
returns-in-Some-clause-answers c = λ b there.
    c.feed.ensures.answers b
    (head_declares b c.args.head c.new.result.family c.new.result.bytes c.new.result.missing there (omega arith)
    (c.in-Some.is ∙ ap (λ f. Some f) (sym c.new.ensures.family)) c.new.ensures.bytes (c.new.ensures.missing ∙ c.from-missing.ensures))

pub returns-in-None-clause-answers : goal.returns-in-None-clause-answers
returns-in-None-clause-answers c = λ b there.
    c.feed-in-None.ensures.answers b (head_skips b c.args.head c.from-missing.result there (omega arith) c.in-None.is c.from-missing.ensures)
