use Rattle.relay_core.proofs.Runs.{run_carries_lem}
use Rattle.relay_core.proofs.law.run_carries.Goals as goal

pub returns : goal.returns
returns c = run_carries_lem
