use Rattle.std.proofs.Common.{◌≡◌, ◌++◌, ◌∙◌, Err, Some, ap, inr, sym}
use Rattle.replay_core.specs.declared.fault.PrintFault.TheVariants.{Read}
use Rattle.audit_core.specs.Ended.{audit_output}
use Rattle.audit_core.proofs.OutputLemmas.{audited, fault_output}
use Rattle.audit_core.proofs.audit.run_audit.Goals as goal

pub returns-in-Ok-print_record-clause-lines : goal.returns-in-Ok-print_record-clause-lines
returns-in-Ok-print_record-clause-lines g c = λ same text sent left second held.
    let right = c.in-Ok.ensures.verdict text left in
    audited c.args.config.now text sent _ right.0 c.in-Ok._checked right.1 right.2
    (c.in-Ok-print_record.ensures.wrote text sent right.0 c.in-Ok._checked second held right.1 right.2)

pub returns-in-Ok-print_record-clause-wrote : goal.returns-in-Ok-print_record-clause-wrote
returns-in-Ok-print_record-clause-wrote g c = λ text sent left second held.
    let right = c.in-Ok.ensures.verdict text left in
    c.in-Ok-print_record.ensures.wrote text sent right.0 c.in-Ok._checked second held right.1 right.2

pub returns-in-Err-print_record-clause-front : goal.returns-in-Err-print_record-clause-front
returns-in-Err-print_record-clause-front g c = λ text sent left second held.
    let right = c.in-Ok.ensures.verdict text left in
    c.in-Err-print_record.ensures.front text sent right.0 c.in-Ok._checked second held right.1 right.2

pub returns-in-Err-print_record-clause-spent : goal.returns-in-Err-print_record-clause-spent
returns-in-Err-print_record-clause-spent g c = λ is text left second.
    let right = c.in-Ok.ensures.verdict text left in
    let read : c.print_record.result ≡ Err Read = cc in
    inr (c.print_record.ensures.spent read text right.0 c.in-Ok._checked second right.1 right.2)

pub returns-in-Ok-report-clause-wrote : goal.returns-in-Ok-report-clause-wrote
returns-in-Ok-report-clause-wrote g c = λ text sent left second held.
    c.in-Ok-report.ensures.ok sent held
    ∙ ap (λ xs. Some (sent ++ xs)) (sym (fault_output c.args.config.now text c.in-Err.fault (c.in-Err.ensures.fault text left) c.in-Ok-report.ensures.inside))

pub returns-in-Err-report-clause-front : goal.returns-in-Err-report-clause-front
returns-in-Err-report-clause-front g c = λ text sent left second held.
    c.in-Err-report.ensures.front sent (audit_output c.args.config.now text) held (λ inside. fault_output c.args.config.now text c.in-Err.fault (c.in-Err.ensures.fault text left) inside)
