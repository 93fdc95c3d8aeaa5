use Rattle.std.proofs.Common.{sym}
use Rattle.std.proofs.lemmas.Result.{on_err_weaker}
use Rattle.audit_core.proofs.WriteLemmas.{front_as, held_front}
use Rattle.audit_core.proofs.audit.report.Goals as goal

pub returns-in-Some-clause-front : goal.returns-in-Some-clause-front
returns-in-Some-clause-front g c = λ sent text held same. held_front _ sent text held

pub returns-in-None-clause-front : goal.returns-in-None-clause-front
returns-in-None-clause-front g c =
    on_err_weaker c.write_fault.result
    (λ front sent text held same. front_as _ sent _ text (sym (same c.in-None.ensures.inside)) (front sent held))
    c.write_fault.ensures.front
