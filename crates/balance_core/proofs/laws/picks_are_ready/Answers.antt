use Rattle.balance_core.proofs.ReadyLemmas.{picked_ready}
use Rattle.balance_core.proofs.laws.picks_are_ready.Goals as goal

pub returns : goal.returns
returns c = picked_ready
