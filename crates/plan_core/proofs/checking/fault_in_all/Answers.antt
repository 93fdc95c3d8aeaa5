use Rattle.std.proofs.Common.{◌≡◌, ◌+◌, ◌∷◌, drop, ◌∙◌, ap, sym}
use Rattle.std.specs.Prelude.{flat_map}
use Rattle.std.proofs.lemmas.List.{drop_more}
use Rattle.plan_core.specs.Faults.{faults_in, earliest, least}
use Rattle.plan_core.proofs.FaultLemmas.{some_more}
use Rattle.plan_core.proofs.checking.fault_in_all.Goals as goal

pub loop-proxy-preserved : goal.loop-proxy-preserved
loop-proxy-preserved c =
    let there : drop c.loop-proxy.proxy-index c.args.all.now ≡ c.proxy-item.result ∷ drop (c.loop-proxy.proxy-index + 1) c.args.all.now =
    drop_more c.args.all.now c.loop-proxy.proxy-index c.proxy-item.result c.loop-proxy-test.true ∙ ap (λ x. x ∷ drop (c.loop-proxy.proxy-index + 1) c.args.all.now) (sym c.proxy-item.is) in
    rw (c.earliest-found.ensures, c.fault_in.ensures)
    (some_more (faults_in c.args.tables.now c.args.backends.now c.args.all.now) c.loop-proxy.found c.proxy-item.result (drop (c.loop-proxy.proxy-index + 1) c.args.all.now)
    ∙ ap (λ all. earliest c.loop-proxy.found (least (flat_map (faults_in c.args.tables.now c.args.backends.now c.args.all.now) all))) (sym there)
    ∙ c.loop-proxy.invariant)
