use Rattle.std.proofs.Common.{sym}
use Rattle.event_text.proofs.LongLemmas.{frontend_long}
use Rattle.event_text.proofs.script.read_frontend.Goals as goal

pub returns-in-Some : goal.returns-in-Some
returns-in-Some c = rw c.in-Some.ensures.some (sym (frontend_long c.in-Some._last.now c.in-Some._more.now))
