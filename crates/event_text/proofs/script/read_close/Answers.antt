use Rattle.event_text.specs.Script.{words_of}
use Rattle.event_text.proofs.FrontLemmas.{close_more}
use Rattle.event_text.proofs.script.read_close.Goals as goal

pub returns-in-Some : goal.returns-in-Some
returns-in-Some c = λ buffer.
    close_more (words_of c.args.rest.now) (words_of c.in_ok-id.note.now) c.in_ok-id.id c.in-Some._last.now c.in-Some._more.now c.in_ok-id.ensures c.in-Some.ensures.some
