use Rattle.whatif_core.proofs.LawLemmas.{open_in_both, same_names}
use Rattle.whatif_core.proofs.laws.open_in_both.Goals as goal

pub returns : goal.returns
returns c = record { below = open_in_both; names = same_names }
