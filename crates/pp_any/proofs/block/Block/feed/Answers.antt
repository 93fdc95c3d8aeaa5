use Rattle.pp_any.proofs.Rests.{pair_ends, pair_goes_on}
use Rattle.pp_any.proofs.block.Block.feed.Goals as goal

pub returns-then-all-piece-clause-answers : goal.returns-then-all-piece-clause-answers
returns-then-all-piece-clause-answers c = λ b rest. (
  c.if-all-piece.true,
  rw (c.read_block-pair.ensures, c.as_slice.ensures.value, c.take_pair.ensures)
      (pair_ends b c.args.piece.now c.args.self.family c.args.self.bytes c.args.self.missing rest c.requires c.if-all-piece.true),
)

pub returns-clause-answers : goal.returns-clause-answers
returns-clause-answers c = λ b rest.
    rw (c.at.ensures, c.take_pair.ensures) (pair_goes_on b c.args.piece.now c.args.self.family c.args.self.bytes c.args.self.missing rest c.if-all-piece.false)
