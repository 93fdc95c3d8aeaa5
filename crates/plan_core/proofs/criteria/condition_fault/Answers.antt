use Rattle.std.proofs.Common.{◌≡◌, ◌+◌, ◌∷◌, drop, ◌∙◌, ap, sym}
use Rattle.std.specs.Prelude.{flat_map}
use Rattle.std.proofs.lemmas.List.{drop_more}
use Rattle.plan_core.specs.Faults.{group_faults, earliest, least}
use Rattle.plan_core.proofs.FaultLemmas.{some_more}
use Rattle.plan_core.proofs.criteria.condition_fault.Goals as goal

pub loop-group-preserved : goal.loop-group-preserved
loop-group-preserved c =
    let there : drop c.loop-group.group-index c.args.groups.now ≡ c.group-item.result ∷ drop (c.loop-group.group-index + 1) c.args.groups.now =
    drop_more c.args.groups.now c.loop-group.group-index c.group-item.result c.loop-group-test.true ∙ ap (λ x. x ∷ drop (c.loop-group.group-index + 1) c.args.groups.now) (sym c.group-item.is) in
    let faults = group_faults c.args.tables.now c.args.backends.now c.args.all.now c.args.name.now c.args.line in
    rw (c.earliest-found.ensures, c.group_fault-fault.ensures, c.as_slice.ensures)
    (some_more faults c.loop-group.found c.group-item.result (drop (c.loop-group.group-index + 1) c.args.groups.now)
    ∙ ap (λ groups. earliest c.loop-group.found (least (flat_map faults groups))) (sym there)
    ∙ c.loop-group.invariant)
