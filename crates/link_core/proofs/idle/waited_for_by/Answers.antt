use Rattle.link_core.proofs.IdleLemmas.{someone_is_waited_for}
use Rattle.link_core.proofs.idle.waited_for_by.Goals as goal

pub returns-clause-some : goal.returns-clause-some
returns-clause-some c = rw (c.is_waited_for.ensures, c.is_waited_for-2.ensures) (someone_is_waited_for c.args.relay.now)
