use Rattle.std.proofs.Common.{◌≡◌, ◌++◌, ◌+◌, drop, length, map}
use Rattle.plan_core.specs.Proxies.{frontends}
use Rattle.plan_core.specs.Compiled.{frontend_of}
use Rattle.plan_core.proofs.planning.frontends_in.Given as goal

abbrev pub invariant-loop-proxy : goal.invariant-loop-proxy
invariant-loop-proxy l = (l.list ++ map (frontend_of l.tables l.backends) (frontends (drop l.proxy-index l.proxies)) ≡ map (frontend_of l.tables l.backends) (frontends l.proxies)) × (length l.list + length (frontends (drop l.proxy-index l.proxies)) ≡ length (frontends l.proxies))
