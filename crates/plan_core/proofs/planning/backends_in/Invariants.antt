use Rattle.std.proofs.Common.{◌≡◌, ◌++◌, ◌+◌, drop, length}
use Rattle.plan_core.specs.Proxies.{backends}
use Rattle.plan_core.specs.Compiled.{backends_in}
use Rattle.plan_core.proofs.planning.backends_in.Given as goal

abbrev pub invariant-loop-proxy : goal.invariant-loop-proxy
invariant-loop-proxy l = (l.list ++ backends_in (drop l.proxy-index l.all) ≡ backends_in l.all) × (length l.list + length (backends (drop l.proxy-index l.all)) ≡ length (backends l.all))
