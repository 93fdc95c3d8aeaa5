use Rattle.std.proofs.Common.{◌≡◌, ◌++◌, ◌∙◌, Some, ap}
use Rattle.std.proofs.lemmas.Result.{on_err_weaker, on_ok_weaker}
use Rattle.replay_core.specs.declared.fault.PrintFault.TheVariants.{Read}
use Rattle.audit_core.proofs.OutputLemmas.{counts_from_start, never_refused, output_from}
use Rattle.audit_core.proofs.WriteLemmas.{front_as, held_front}
use Rattle.audit_core.proofs.audit.print_record.Goals as goal

pub returns-in-Ok-clause-wrote : goal.returns-in-Ok-clause-wrote
returns-in-Ok-clause-wrote g c =
    on_ok_weaker c.print_all-printed.result
    (λ prints text sent plan checked left held means is.
    prints text sent checked left held (counts_from_start c.args.config.now text plan checked c.in-Ok.auditor c.in-Ok.ensures.ok means is)
    ∙ ap (λ xs. Some (sent ++ xs)) (output_from c.args.config.now text plan checked c.in-Ok.auditor c.in-Ok.ensures.ok means is))
    c.print_all-printed.ensures.ok

pub returns-in-Ok-clause-front : goal.returns-in-Ok-clause-front
returns-in-Ok-clause-front g c =
    on_err_weaker c.print_all-printed.result
    (λ prints text sent plan checked left held means is.
    front_as _ sent _ _ (output_from c.args.config.now text plan checked c.in-Ok.auditor c.in-Ok.ensures.ok means is)
    (prints text sent checked left held (counts_from_start c.args.config.now text plan checked c.in-Ok.auditor c.in-Ok.ensures.ok means is)))
    c.print_all-printed.ensures.front

pub returns-in-Ok-clause-spent : goal.returns-in-Ok-clause-spent
returns-in-Ok-clause-spent g c = λ read text plan checked left means is.
    c.print_all-printed.ensures.spent read text checked left (counts_from_start c.args.config.now text plan checked c.in-Ok.auditor c.in-Ok.ensures.ok means is)

pub returns-in-Err-clause-front : goal.returns-in-Err-clause-front
returns-in-Err-clause-front g c = λ text sent plan checked left held means is. held_front _ sent _ held

pub returns-in-Err-clause-spent : goal.returns-in-Err-clause-spent
returns-in-Err-clause-spent g c = λ is text plan checked left means right.
    let read : c.again.result ≡ Read = cc in
    absurd (never_refused c.args.config.now c.in-Err.fault c.again.result plan c.in-Err.ensures.fault c.again.ensures.no_memory read means)
