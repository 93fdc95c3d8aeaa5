use Rattle.whatif_core.proofs.OutcomeLemmas.{reopened}
use Rattle.whatif_core.proofs.run.open_twin.Goals as goal

pub returns-in-Err-clause-fault : goal.returns-in-Err-clause-fault
returns-in-Err-clause-fault c = reopened c.args.config.now c.in-Err.fault c.again.result c.in-Err.ensures.fault c.again.ensures.no_memory c.again.ensures.either
