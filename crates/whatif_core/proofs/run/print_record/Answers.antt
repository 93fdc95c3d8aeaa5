use Rattle.std.proofs.lemmas.Result.{on_err_weaker, IfOk-weaker}
use Rattle.audit_core.proofs.WriteLemmas.{front_as, held_front}
use Rattle.whatif_core.proofs.OutcomeLemmas.{compared, never_reopened, output_right, right_end}
use Rattle.whatif_core.proofs.run.print_record.Goals as goal

pub returns-in-Ok-clause-wrote : goal.returns-in-Ok-clause-wrote
returns-in-Ok-clause-wrote g c =
    let opened = c.in-Ok.ensures.ok in
    IfOk-weaker c.print_all-printed.result _ _
    (λ differing prints other text sent left held right.
    compared c.args.summary c.args.config.now other text sent c.args.trial c.in-Ok.twin _ differing right opened.0 opened.1 (prints text sent left held))
    c.print_all-printed.ensures.ok

pub returns-in-Ok-clause-front : goal.returns-in-Ok-clause-front
returns-in-Ok-clause-front g c =
    let opened = c.in-Ok.ensures.ok in
    on_err_weaker c.print_all-printed.result
    (λ prints other text sent left held right.
    front_as _ sent _ _ (output_right c.args.summary c.args.config.now other text c.args.trial c.in-Ok.twin right opened.0 opened.1) (prints text sent left held))
    c.print_all-printed.ensures.front

pub returns-in-Ok-clause-spent : goal.returns-in-Ok-clause-spent
returns-in-Ok-clause-spent g c = λ read other text left right.
    let end = right_end c.args.config.now other text c.args.trial c.in-Ok.twin.checked right c.in-Ok.ensures.ok.0 in
    c.print_all-printed.ensures.spent read text end.0 left end.1

pub returns-in-Err-clause-front : goal.returns-in-Err-clause-front
returns-in-Err-clause-front g c = λ other text sent left held right. held_front _ sent _ held

pub returns-in-Err-clause-spent : goal.returns-in-Err-clause-spent
returns-in-Err-clause-spent g c = λ is other text left right. absurd (never_reopened c.args.config.now other text c.args.trial c.in-Err.fault right c.in-Err.ensures.fault cc)
