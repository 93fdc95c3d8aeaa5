use Rattle.audit_core.proofs.DueLemmas.{still_due}
use Rattle.audit_core.proofs.auditor.answer_first.Goals as goal

pub returns-in_err-answer_into-in-Whole-clause-due : goal.returns-in_err-answer_into-in-Whole-clause-due
returns-in_err-answer_into-in-Whole-clause-due c =
    let due = c.args.due.now in still_due due.next due.reload due.peer due.answered c.answer_into.new.answered c.requires.due
