use Rattle.addr_core.proofs.GroupLemmas.{is_longest}
use Rattle.addr_core.proofs.groups.longest.Goals as goal

pub returns-clause-longest : goal.returns-clause-longest
returns-clause-longest c = is_longest c.args.groups.now c.longest_run.result.place c.longest_run.result.count c.longest_run.ensures.place c.longest_run.ensures.count
