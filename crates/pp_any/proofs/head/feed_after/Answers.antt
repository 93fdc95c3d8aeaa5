use Rattle.std.proofs.Common.{◌+◌, drop, length, ap, ◌∙◌, sym}
use Rattle.std.proofs.lemmas.List.{take_rest}
use Rattle.pp_any.specs.Faults.{of_head}
use Rattle.pp_any.specs.Status.{Fault, status}
use Rattle.pp_any.proofs.Feeding.{answers_later, joined_at, length_at}
use Rattle.pp_any.proofs.Heads.{head_faulty, head_fits}
use Rattle.pp_any.proofs.head.feed_after.Goals as goal

pub feed_block-requires : goal.feed_block-requires
feed_block-requires c = head_fits c.args.head.now c.in-Ok.head (sym c.read_head.ensures ∙ c.in-Ok.is)

pub returns-in-Ok-clause-answers : goal.returns-in-Ok-clause-answers
returns-in-Ok-clause-answers c = λ b is whole.
    let at_block = rw take_rest at (c.feed_block.ensures.answers c.args.head.now (record { whole = whole; says = sym c.read_head.ensures ∙ c.in-Ok.is })) in
    rw c.later.ensures (answers_later b c.args.piece.now c.args.read c.args.head.now c.feed_block.result is c.requires at_block)

pub returns-in-Err-clause-answers : goal.returns-in-Err-clause-answers
returns-in-Err-clause-answers c = λ b is whole. (
  c.requires,
  ap status (sym (joined_at b c.args.piece.now c.args.read c.args.head.now is))
      ∙ head_faulty c.args.head.now (drop c.args.read c.args.piece.now) c.in-Err.fault whole (sym c.read_head.ensures ∙ c.in-Err.is)
      ∙ ap (λ n. Fault (of_head c.in-Err.fault) n) (length_at b c.args.piece.now c.args.read c.args.head.now is c.requires)
      ∙ ap (λ f. Fault f (length b + c.args.read)) (sym c.from.ensures),
)
