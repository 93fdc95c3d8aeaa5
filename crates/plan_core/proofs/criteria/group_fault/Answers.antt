use Rattle.std.proofs.Common.{◌≡◌, ◌+◌, ◌∷◌, drop, ◌∙◌, ap, sym}
use Rattle.std.proofs.lemmas.List.{drop_more}
use Rattle.acl_core.specs.declared.condition.Term.{Term}
use Rattle.plan_core.specs.Faults.{operand_fault, group_faults, earliest, least}
use Rattle.plan_core.proofs.FaultLemmas.{one_more}
use Rattle.plan_core.proofs.criteria.group_fault.Goals as goal

pub loop-term-preserved : goal.loop-term-preserved
loop-term-preserved c =
    let there : drop c.loop-term.term-index c.args.terms.now ≡ c.term-item.result ∷ drop (c.loop-term.term-index + 1) c.args.terms.now =
    drop_more c.args.terms.now c.loop-term.term-index c.term-item.result c.loop-term-test.true ∙ ap (λ x. x ∷ drop (c.loop-term.term-index + 1) c.args.terms.now) (sym c.term-item.is) in
    let fault = λ (term : Term). operand_fault c.args.tables.now c.args.backends.now c.args.all.now c.args.name.now c.args.line term.operand in
    rw (c.earliest-found.ensures, c.operand_fault-fault.ensures)
    (one_more fault c.loop-term.found c.term-item.result (drop (c.loop-term.term-index + 1) c.args.terms.now)
    ∙ ap (λ terms. earliest c.loop-term.found (least (group_faults c.args.tables.now c.args.backends.now c.args.all.now c.args.name.now c.args.line terms))) (sym there)
    ∙ c.loop-term.invariant)
