use Rattle.std.proofs.Common.{sym}
use Rattle.event_text.proofs.LongLemmas.{id_long}
use Rattle.event_text.proofs.script.read_id.Goals as goal

pub returns-in-Some : goal.returns-in-Some
returns-in-Some c =
    rw (c.in_ok-frontend.ensures.some, c.in-Some.ensures.some)
    (sym (id_long c.in_ok-frontend.frontend.now c.in-Some._last.now c.in-Some._more.now))
