use Rattle.event_text.specs.Script.{words_of}
use Rattle.event_text.proofs.FrontLemmas.{piece_more}
use Rattle.event_text.proofs.script.read_piece.Goals as goal

pub returns-in-Some-clause-event : goal.returns-in-Some-clause-event
returns-in-Some-clause-event c =
    piece_more (words_of c.args.rest.now) (words_of c.in_ok-id.bytes.now) c.in_ok-id.id c.in-Some._last.now c.in-Some._more.now c.in_ok-id.ensures c.in-Some.ensures.some
