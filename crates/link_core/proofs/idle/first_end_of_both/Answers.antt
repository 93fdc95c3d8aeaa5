use Rattle.link_core.proofs.EndLemmas.{both_still}
use Rattle.link_core.proofs.idle.first_end_of_both.Goals as goal

pub returns-clause-quiet : goal.returns-clause-quiet
returns-clause-quiet c = λ moment later_client later_server before client server. both_still _ _ _ _ _ _ (rw (← c.first_end.ensures, ← c.first_end-2.ensures, ← c.min.ensures) before) client server
