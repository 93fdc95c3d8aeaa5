use Rattle.std.proofs.Common.{arith}
use Rattle.event_text.proofs.EventLemmas.{event_of-lines}
use Rattle.event_text.proofs.events.write_event.Goals as goal

pub returns-clause-again : goal.returns-clause-again
returns-clause-again c = λ given. event_of-lines c.args.moment c.args.event.now (omega (arith, c.ranges.moment)) given
