use Rattle.std.proofs.lemmas.Result.{err_from_is_err_and, on_err_weaker}
use Rattle.pipe_core.proofs.DeliveryLemmas.{delivery_part, delivery_payload, delivery_send}
use Rattle.pipe_core.proofs.pipe.serve.Goals as goal

pub returns-in_err-send-clause-err : goal.returns-in_err-send-clause-err
returns-in_err-send-clause-err g c =
    let p = err_from_is_err_and c.from_residual.result c.from_residual.ensures.1 in
    rw p.1 (delivery_send _ _ _ _ _ (rw c.as_slice.ensures.value at c.in_err-send.ensures.err))

pub returns-in_err-send-2-clause-err : goal.returns-in_err-send-2-clause-err
returns-in_err-send-2-clause-err g c =
    let p = err_from_is_err_and c.from_residual-in_err-send-2.result c.from_residual-in_err-send-2.ensures.1 in
    rw p.1 (delivery_payload _ _ _ _ _ _ (rw c.as_slice.ensures.value at c.in_ok-send.ensures.ok) c.in_err-send-2.ensures.err)

pub returns-clause-err : goal.returns-clause-err
returns-clause-err g c =
    on_err_weaker c.pass_on.result
    (λ dropped. delivery_part _ _ _ _ _ _ _ _ (rw c.as_slice.ensures.value at c.in_ok-send.ensures.ok) c.in_ok-send-2.ensures.ok dropped)
    c.pass_on.ensures.err
