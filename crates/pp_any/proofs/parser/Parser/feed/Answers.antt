use Rattle.std.proofs.Common.{[], ap, ◌∙◌, sym}
use Rattle.pp_any.specs.declared.rest.Rest.TheVariants.{Block, Skip}
use Rattle.pp_any.specs.Rest.{rest_in}
use Rattle.pp_any.proofs.Bytes.{held_answers}
use Rattle.pp_any.proofs.NextPiece.{tells, tells_of}
use Rattle.pp_any.proofs.parser.Parser.feed.Goals as goal

pub returns-in-Start-clause-answers : goal.returns-in-Start-clause-answers
returns-in-Start-clause-answers c = λ b rest. held_answers b [] c.args.piece.now c.args.self c.start.result rest (sym c.self.view_is ∙ ap rest_in c.in-Start.is) c.start.ensures.answers

pub returns-in-Line-clause-answers : goal.returns-in-Line-clause-answers
returns-in-Line-clause-answers c = λ b rest.
    held_answers b c.in-Line.line.bytes.items c.args.piece.now c.args.self c.feed.result rest (sym c.self.view_is ∙ ap rest_in c.in-Line.is)
    (rw c.in-Line.line-is at c.feed.ensures.answers)

pub returns-in-Head-clause-answers : goal.returns-in-Head-clause-answers
returns-in-Head-clause-answers c = λ b rest.
    held_answers b c.in-Head.head.bytes.items c.args.piece.now c.args.self c.feed-in-Head.result rest (sym c.self.view_is ∙ ap rest_in c.in-Head.is)
    (rw c.in-Head.head-is at c.feed-in-Head.ensures.answers)

pub returns-in-Start-clause-tells : goal.returns-in-Start-clause-tells
returns-in-Start-clause-tells c = λ b rest.
    tells b c.args.piece.now c.args.self c.start.result rest
    (held_answers b [] c.args.piece.now c.args.self c.start.result rest (sym c.self.view_is ∙ ap rest_in c.in-Start.is) c.start.ensures.answers)

pub returns-in-Line-clause-tells : goal.returns-in-Line-clause-tells
returns-in-Line-clause-tells c = λ b rest.
    tells b c.args.piece.now c.args.self c.feed.result rest
    (held_answers b c.in-Line.line.bytes.items c.args.piece.now c.args.self c.feed.result rest (sym c.self.view_is ∙ ap rest_in c.in-Line.is)
    (rw c.in-Line.line-is at c.feed.ensures.answers))

pub returns-in-Head-clause-tells : goal.returns-in-Head-clause-tells
returns-in-Head-clause-tells c = λ b rest.
    tells b c.args.piece.now c.args.self c.feed-in-Head.result rest
    (held_answers b c.in-Head.head.bytes.items c.args.piece.now c.args.self c.feed-in-Head.result rest (sym c.self.view_is ∙ ap rest_in c.in-Head.is)
    (rw c.in-Head.head-is at c.feed-in-Head.ensures.answers))

pub returns-in-Block-clause-tells : goal.returns-in-Block-clause-tells
returns-in-Block-clause-tells c = λ b rest.
    tells_of b c.args.piece.now c.args.self (Block c.in-Block.block.family c.in-Block.block.bytes c.in-Block.block.missing) c.feed-in-Block.result rest (sym c.self.view_is ∙ ap rest_in c.in-Block.is)
    (rw c.in-Block.block-is at c.feed-in-Block.ensures.answers b)

pub returns-in-Skip-clause-tells : goal.returns-in-Skip-clause-tells
returns-in-Skip-clause-tells c = λ b rest.
    tells_of b c.args.piece.now c.args.self (Skip c.in-Skip.skip.missing) c.feed-in-Skip.result rest (sym c.self.view_is ∙ ap rest_in c.in-Skip.is)
    (rw c.in-Skip.skip-is at c.feed-in-Skip.ensures.answers b)
