use Rattle.std.proofs.Common.{sym}
use Rattle.event_text.proofs.LongLemmas.{server_long}
use Rattle.event_text.proofs.script.read_server.Goals as goal

pub returns-in-Some : goal.returns-in-Some
returns-in-Some c =
    rw (c.in_ok-number.ensures.some, c.in-Some.ensures.some) (sym (server_long c.in_ok-number.number.now c.in-Some._last.now c.in-Some._more.now))
