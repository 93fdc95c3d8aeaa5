use Rattle.std.proofs.Common.{◌∙◌, ap, sym}
use Rattle.plan_core.specs.Faults.{least, faults_of}
use Rattle.plan_core.proofs.FaultLemmas.{some_least, faults_where}
use Rattle.plan_core.proofs.checking.fault_of.Goals as goal

pub returns-then-has_frontend-clause-least : goal.returns-then-has_frontend-clause-least
returns-then-has_frontend-clause-least c =
    some_least (faults_of c.args.tables.now c.args.backends.now c.args.all.now) c.fault_in_all.result
    (c.fault_in_all.ensures ∙ ap least (sym (faults_where c.args.tables.now c.args.backends.now c.args.all.now (sym c.has_frontend.ensures ∙ c.if-has_frontend.true))))
