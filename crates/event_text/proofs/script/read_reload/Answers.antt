use Rattle.std.proofs.Common.{sym}
use Rattle.event_text.proofs.LongLemmas.{reload_long}
use Rattle.event_text.proofs.script.read_reload.Goals as goal

pub returns-in-Some-clause-head : goal.returns-in-Some-clause-head
returns-in-Some-clause-head c = λ buffer. rw c.in-Some.ensures.some (sym (reload_long c.args.moment c.in-Some._count.now c.in-Some._more.now))
