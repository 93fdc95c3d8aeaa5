use Rattle.std.proofs.Common.{◌≤◌, ◌+◌, subst, sym}
use Rattle.std.proofs.lemmas.Result.{on_ok_weaker}
use Rattle.conn_model.specs.Answer.{answer_in}
use Rattle.conn_model.specs.History.{owned_event}
use Rattle.conn_model.specs.Counts.{open_connections}
use Rattle.audit_core.proofs.OpenLemmas.{open_answered}
use Rattle.audit_core.proofs.auditor.answer_into.Goals as goal

pub returns-clause-few : goal.returns-clause-few
returns-clause-few c =
    let event = owned_event c.args.event.now in
    on_ok_weaker c.step.result
    (λ is.
    subst (λ p. open_connections p ≤ open_connections c.args.core.now + 1) (sym is)
    (open_answered c.args.core.now c.args.moment event (answer_in c.args.core.now c.args.moment event)))
    c.step.ensures.plain
