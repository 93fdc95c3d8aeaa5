use Rattle.std.proofs.Common.{◌≡◌, ◌++◌, false, drop}
use Rattle.std.specs.Prelude.{Ok}
use Rattle.list_core.specs.Each.{◌>>=◌}
use Rattle.acl_core.specs.Reading.{group_of}
use Rattle.acl_core.proofs.GroupLemmas.{followed}
use Rattle.acl_core.proofs.grouping.terms.Given as goal

abbrev pub invariant-loop-token : goal.invariant-loop-token
invariant-loop-token l =
    (followed l.known l.is_awaited l.negated (drop l.token-index l.tokens) >>= λ more. Ok (l.terms ++ more)) ≡ group_of l.known false l.tokens
