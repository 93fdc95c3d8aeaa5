use Rattle.std.specs.Prelude.{take}
use Rattle.std.proofs.lemmas.Result.{IfErr-weaker, IfOk-weaker}
use Rattle.audit_core.proofs.EndLemmas.{checked_from, right_from, wrong_from}
use Rattle.audit_core.proofs.CutLemmas.{cut_fault}
use Rattle.audit_core.proofs.PassLemmas.{never_wrong}
use Rattle.audit_core.proofs.WrittenLemmas.{written_record}
use Rattle.audit_core.specs.Record.{history_text}
use Rattle.audit_core.proofs.check.check_record.Goals as goal

pub returns-in-Ok-clause-checked : goal.returns-in-Ok-clause-checked
returns-in-Ok-clause-checked g c =
    IfOk-weaker c.check_and_count-checked.result _ _
    (λ checked is text left. checked_from c.args.config.now text checked c.in-Ok.auditor c.in-Ok.ensures.ok (is text left))
    c.check_and_count-checked.ensures.ok

pub returns-in-Ok-clause-verdict : goal.returns-in-Ok-clause-verdict
returns-in-Ok-clause-verdict g c =
    IfOk-weaker c.check_and_count-checked.result _ _
    (λ checked is text left. right_from c.args.config.now text checked c.in-Ok.auditor c.in-Ok.ensures.ok (is text left))
    c.check_and_count-checked.ensures.ok

pub returns-in-Ok-clause-fault : goal.returns-in-Ok-clause-fault
returns-in-Ok-clause-fault g c =
    IfErr-weaker c.check_and_count-checked.result _ _
    (λ fault is text left. wrong_from c.args.config.now text fault.kind fault.line c.in-Ok.auditor c.in-Ok.ensures.ok (is text left))
    c.check_and_count-checked.ensures.stops

pub returns-in-Ok-clause-passes : goal.returns-in-Ok-clause-passes
returns-in-Ok-clause-passes g c =
    IfErr-weaker c.check_and_count-checked.result _ _
    (λ fault is text plan history left means legal is_record within.
    never_wrong c.args.config.now text fault.kind fault.line plan history means legal is_record within
    (wrong_from c.args.config.now text fault.kind fault.line c.in-Ok.auditor c.in-Ok.ensures.ok (is text left)))
    c.check_and_count-checked.ensures.stops

pub returns-in-Ok-clause-written : goal.returns-in-Ok-clause-written
returns-in-Ok-clause-written g c =
    IfErr-weaker c.check_and_count-checked.result _ _
    (λ fault is plan history left means legal given within.
    never_wrong c.args.config.now (history_text history) fault.kind fault.line plan history means legal (written_record history given) within
    (wrong_from c.args.config.now (history_text history) fault.kind fault.line c.in-Ok.auditor c.in-Ok.ensures.ok (is (history_text history) left)))
    c.check_and_count-checked.ensures.stops

pub returns-in-Ok-clause-cut : goal.returns-in-Ok-clause-cut
returns-in-Ok-clause-cut g c =
    IfErr-weaker c.check_and_count-checked.result _ _
    (λ fault is plan history count left means legal given within.
    cut_fault c.args.config.now plan history count fault.line fault.kind means legal given within
    (wrong_from c.args.config.now (take count (history_text history)) fault.kind fault.line c.in-Ok.auditor c.in-Ok.ensures.ok (is (take count (history_text history)) left)))
    c.check_and_count-checked.ensures.stops
