use Rattle.std.proofs.Common.{◌≡◌, ◌+◌, ◌∷◌, drop, ◌∙◌, ap, sym}
use Rattle.std.proofs.lemmas.List.{drop_more}
use Rattle.conf_tree.specs.declared.tree.ConfigLine.{ConfigLine}
use Rattle.plan_core.specs.Faults.{line_faults, own_faults, earliest, least}
use Rattle.plan_core.proofs.FaultLemmas.{some_more}
use Rattle.plan_core.proofs.checking.own_fault.Goals as goal

pub loop-item-preserved : goal.loop-item-preserved
loop-item-preserved c =
    let there : drop c.loop-item.item-index c.args.items.now ≡ c.item-item.result ∷ drop (c.loop-item.item-index + 1) c.args.items.now =
    drop_more c.args.items.now c.loop-item.item-index c.item-item.result c.loop-item-test.true ∙ ap (λ x. x ∷ drop (c.loop-item.item-index + 1) c.args.items.now) (sym c.item-item.is) in
    let faults = λ (item : ConfigLine). line_faults c.args.tables.now c.args.backends.now c.args.all.now c.args.name.now item.line item.statement in
    rw (c.earliest-found.ensures, c.line_fault.ensures)
    (some_more faults c.loop-item.found c.item-item.result (drop (c.loop-item.item-index + 1) c.args.items.now)
    ∙ ap (λ items. earliest c.loop-item.found (least (own_faults c.args.tables.now c.args.backends.now c.args.all.now c.args.name.now items))) (sym there)
    ∙ c.loop-item.invariant)
