use Rattle.std.proofs.Common.{◌≡◌, ◌++◌, ◌∙◌, Err, Some, ap, inr, subst, sym}
use Rattle.replay_core.specs.declared.fault.PrintFault.TheVariants.{Read}
use Rattle.whatif_core.specs.Whatif.{whatif_output, IsCompared}
use Rattle.whatif_core.proofs.OutcomeLemmas.{fault_output, output_compared, right_in}
use Rattle.whatif_core.proofs.run.compare.Goals as goal

pub returns-in-Ok-print_record-clause-finds : goal.returns-in-Ok-print_record-clause-finds
returns-in-Ok-print_record-clause-finds g c = λ other text left opened.
    (c.args.trial, right_in c.args.config.now other text c.args.trial c.in-Ok._checked opened (c.in-Ok.ensures.verdict text left))

pub returns-in-Ok-print_record-clause-compared : goal.returns-in-Ok-print_record-clause-compared
returns-in-Ok-print_record-clause-compared g c = λ differing other text sent found left second held opened.
    let same : c.in-Ok-print_record.differing ≡ differing = cc in
    let right = right_in c.args.config.now other text c.args.trial c.in-Ok._checked opened (c.in-Ok.ensures.verdict text left) in
    subst (IsCompared c.args.summary c.args.config.now other text sent _) same (c.in-Ok-print_record.ensures.wrote other text sent second held right)

pub returns-in-Ok-print_record-clause-wrote : goal.returns-in-Ok-print_record-clause-wrote
returns-in-Ok-print_record-clause-wrote g c = λ other text sent left second held opened.
    let right = right_in c.args.config.now other text c.args.trial c.in-Ok._checked opened (c.in-Ok.ensures.verdict text left) in
    output_compared c.args.summary c.args.config.now other text sent _ c.in-Ok-print_record.differing (c.in-Ok-print_record.ensures.wrote other text sent second held right)

pub returns-in-Err-print_record-clause-front : goal.returns-in-Err-print_record-clause-front
returns-in-Err-print_record-clause-front g c = λ other text sent left second held opened.
    let right = right_in c.args.config.now other text c.args.trial c.in-Ok._checked opened (c.in-Ok.ensures.verdict text left) in
    c.in-Err-print_record.ensures.front other text sent second held right

pub returns-in-Err-print_record-clause-spent : goal.returns-in-Err-print_record-clause-spent
returns-in-Err-print_record-clause-spent g c = λ is other text left second opened.
    let right = right_in c.args.config.now other text c.args.trial c.in-Ok._checked opened (c.in-Ok.ensures.verdict text left) in
    let read : c.print_record.result ≡ Err Read = cc in
    inr (c.print_record.ensures.spent read other text second right)

pub returns-in-Ok-report-clause-finds : goal.returns-in-Ok-report-clause-finds
returns-in-Ok-report-clause-finds g c = λ other text left opened. c.in-Err.ensures.fault text left

pub returns-in-Ok-report-clause-wrote : goal.returns-in-Ok-report-clause-wrote
returns-in-Ok-report-clause-wrote g c = λ other text sent left second held opened.
    c.in-Ok-report.ensures.ok sent held
    ∙ ap (λ xs. Some (sent ++ xs)) (sym (fault_output c.args.summary c.args.config.now other text c.args.trial c.in-Err.fault opened (c.in-Err.ensures.fault text left) c.in-Ok-report.ensures.inside))

pub returns-in-Err-report-clause-front : goal.returns-in-Err-report-clause-front
returns-in-Err-report-clause-front g c = λ other text sent left second held opened.
    c.in-Err-report.ensures.front sent (whatif_output c.args.summary c.args.config.now other text) held
    (λ inside. fault_output c.args.summary c.args.config.now other text c.args.trial c.in-Err.fault opened (c.in-Err.ensures.fault text left) inside)
