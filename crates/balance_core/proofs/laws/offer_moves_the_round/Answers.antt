use Rattle.balance_core.proofs.RoundLemmas.{offer_moves}
use Rattle.balance_core.proofs.laws.offer_moves_the_round.Goals as goal

pub returns : goal.returns
returns c = offer_moves
