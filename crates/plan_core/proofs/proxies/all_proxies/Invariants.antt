use Rattle.std.proofs.Common.{◌≡◌, ◌++◌, [], length}
use Rattle.plan_core.specs.Proxies.{proxies}
use Rattle.plan_core.proofs.proxies.all_proxies.Given as goal

abbrev pub invariant-loop-rest : goal.invariant-loop-rest
invariant-loop-rest l = l.all ++ proxies l.base l.rest ≡ proxies [] l.items

abbrev pub decreases-loop-rest : goal.decreases-loop-rest
decreases-loop-rest l = length l.rest
