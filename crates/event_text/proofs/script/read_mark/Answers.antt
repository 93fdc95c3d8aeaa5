use Rattle.std.proofs.Common.{sym}
use Rattle.event_text.proofs.LongLemmas.{mark_long}
use Rattle.event_text.proofs.script.read_mark.Goals as goal

pub returns-in-Some : goal.returns-in-Some
returns-in-Some c = λ buffer.
    rw (c.in_ok-backend.ensures.some, c.in_ok-server.ensures.some, c.in-Some.ensures.some)
    (sym (mark_long c.in_ok-backend.backend.now c.in_ok-server.server.now c.in-Some._last.now c.in-Some._more.now))
