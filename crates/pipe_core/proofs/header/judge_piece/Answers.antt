use Rattle.pipe_core.proofs.AcceptLemmas.{piece_uses}
use Rattle.pipe_core.proofs.JudgedLemmas.{offers, refuses}
use Rattle.pipe_core.proofs.ListenerLemmas.{lacks_memory}
use Rattle.pipe_core.proofs.PieceLemmas.{waits_on}
use Rattle.conn_model.specs.declared.event.OwnedEvent.TheVariants.{Piece}
use Rattle.pipe_core.proofs.StateLemmas.{piece_said}
use Rattle.pipe_core.proofs.header.judge_piece.Goals as goal

pub returns-in-Wait-clause-decides : goal.returns-in-Wait-clause-decides
returns-in-Wait-clause-decides c = λ first got waits.
    rw c.in-Ok.ensures.plain_new (waits_on first c.args.id c.args.core.now got c.args.piece.now c.in-Ok.reply _ _ waits c.in-Ok.ensures.plain_reply c.in-Wait.is)

pub returns-in-Offer-clause-within : goal.returns-in-Offer-clause-within
returns-in-Offer-clause-within c =
    let holds = c.requires.waits in
    rw c.in-Offer.is at (piece_uses c.args.core.now c.args.id holds.0 holds.1 c.args.piece.now c.in-Ok.reply c.in-Ok.ensures.plain_reply)

pub returns-in-Offer-clause-decides : goal.returns-in-Offer-clause-decides
returns-in-Offer-clause-decides c = λ first got waits.
    let holds = c.requires.waits in
    offers first c.args.id c.args.core.now got c.args.piece.now c.in-Ok.reply waits c.in-Ok.ensures.plain_reply _ _ _ _ _ _ c.in-Offer.send c.in-Offer.is
    (rw c.in-Offer.is at (piece_uses c.args.core.now c.args.id holds.0 holds.1 c.args.piece.now c.in-Ok.reply c.in-Ok.ensures.plain_reply))

pub returns-in-Refuse-clause-decides : goal.returns-in-Refuse-clause-decides
returns-in-Refuse-clause-decides c = λ first got waits.
    refuses first c.args.id c.args.core.now got c.args.piece.now c.in-Ok.reply waits c.in-Ok.ensures.plain_reply _ _ _ c.in-Refuse.is

pub lack_of_memory-requires : goal.lack_of_memory-requires
lack_of_memory-requires c =
    let holds = c.requires.waits in
    lacks_memory (Piece c.args.id c.args.piece.now) _ _ c.in-Err.fault (piece_said c.args.core.now c.args.id holds.0 holds.1 c.args.piece.now) c.in-Err.ensures.plain_fault
