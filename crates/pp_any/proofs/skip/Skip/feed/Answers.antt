use Rattle.pp_any.proofs.Rests.{skip_ends, skip_goes_on}
use Rattle.pp_any.proofs.skip.Skip.feed.Goals as goal

pub returns-then-missing-piece-clause-answers : goal.returns-then-missing-piece-clause-answers
returns-then-missing-piece-clause-answers c = λ b rest. (c.if-missing-piece.true, skip_ends b c.args.piece.now c.args.self.missing rest c.requires c.if-missing-piece.true)

pub returns-clause-answers : goal.returns-clause-answers
returns-clause-answers c = λ b rest. rw c.at.ensures (skip_goes_on b c.args.piece.now c.args.self.missing rest c.if-missing-piece.false)
