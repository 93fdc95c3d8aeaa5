use Rattle.std.proofs.Common.{◌∙◌, []}
use Rattle.std.proofs.lemmas.Result.{on_err_weaker}
use Rattle.audit_core.proofs.WriteLemmas.{front_whole, held_front}
use Rattle.audit_core.proofs.audit.write_fault.Goals as goal

pub returns-in-Ok-clause-front : goal.returns-in-Ok-clause-front
returns-in-Ok-clause-front g c =
    on_err_weaker c.write_bytes.result
    (λ front sent held. front_whole _ sent c.as_slice.result.now _ (c.as_slice.ensures.value ∙ c.in-Ok.ensures) (front sent [] held))
    c.write_bytes.ensures.front

pub returns-in-Err-clause-front : goal.returns-in-Err-clause-front
returns-in-Err-clause-front g c = λ sent held. held_front _ sent _ held
