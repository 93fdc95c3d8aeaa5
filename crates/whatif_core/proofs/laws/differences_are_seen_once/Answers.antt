use Rattle.whatif_core.proofs.OnceLemmas.{one_difference}
use Rattle.whatif_core.proofs.PartedLemmas.{one_parting}
use Rattle.whatif_core.proofs.SeenLemmas.{failures_seen, seen}
use Rattle.whatif_core.proofs.laws.differences_are_seen_once.Goals as goal

pub returns : goal.returns
returns c = record { once = one_difference; parted_once = one_parting; seen = seen; failures_are_seen = failures_seen }
