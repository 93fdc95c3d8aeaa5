use Rattle.std.proofs.Common.{◌≤◌, length, sym, subst}
use Rattle.plan_core.specs.Proxies.{frontends, backends}
use Rattle.plan_core.proofs.LineLemmas.{few_frontends, few_backends, few_proxies}
use Rattle.plan_core.proofs.proxies.proxies_in.Goals as goal

pub returns-clause-frontends : goal.returns-clause-frontends
returns-clause-frontends c = subst (λ all. length (frontends all) ≤ 64) (sym c.in_ok-all.ensures) (few_frontends c.args.items.now c.requires)

pub returns-clause-backends : goal.returns-clause-backends
returns-clause-backends c = subst (λ all. length (backends all) ≤ 64) (sym c.in_ok-all.ensures) (few_backends c.args.items.now c.requires)

pub returns-clause-both : goal.returns-clause-both
returns-clause-both c = subst (λ all. length all ≤ 128) (sym c.in_ok-all.ensures) (few_proxies c.args.items.now c.requires)
