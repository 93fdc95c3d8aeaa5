use Rattle.std.proofs.Common.{sym}
use Rattle.event_text.proofs.LongLemmas.{backend_long}
use Rattle.event_text.proofs.script.read_backend.Goals as goal

pub returns-in-Some : goal.returns-in-Some
returns-in-Some c = rw c.in-Some.ensures.some (sym (backend_long c.in-Some._last.now c.in-Some._more.now))
