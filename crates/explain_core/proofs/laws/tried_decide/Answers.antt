use Rattle.std.proofs.Common.{ap}
use Rattle.explain_core.proofs.TriedLemmas.{decided}
use Rattle.explain_core.proofs.laws.tried_decide.Goals as goal

pub returns-clause-verdict : goal.returns-clause-verdict
returns-clause-verdict c = λ scene tracks rules. ap (λ s. s.0) (decided scene tracks rules)

pub returns-clause-line : goal.returns-clause-line
returns-clause-line c = λ scene tracks rules. ap (λ s. s.1) (decided scene tracks rules)
