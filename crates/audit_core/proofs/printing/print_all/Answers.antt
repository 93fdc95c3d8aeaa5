use Rattle.std.proofs.Common.{◌≡◌, Some}
use Rattle.std.proofs.lemmas.Result.{on_err_weaker, on_ok_weaker}
use Rattle.replay_core.specs.Replay.{IsFront}
use Rattle.audit_core.specs.Ended.{counts_text}
use Rattle.audit_core.specs.Printing.{noted_in}
use Rattle.audit_core.proofs.WriteLemmas.{counts_after, lines_front, on_err_always}
use Rattle.audit_core.proofs.printing.print_all.Goals as goal

pub returns-in_err-print_lines-clause-front : goal.returns-in_err-print_lines-clause-front
returns-in_err-print_lines-clause-front g c =
    on_err_always c.from_residual.result
    (λ text sent checked left held counts.
    lines_front sent c.args.auditor.now text checked _ (noted_in c.new-journal.result) c.new-journal.ensures (c.in_err-print_lines.ensures.front text sent (counts_text checked) left held))

pub returns-clause-ok : goal.returns-clause-ok
returns-clause-ok g c =
    on_ok_weaker c.print_counts.result
    (counts_after (λ xs. g.O.Output.held c.print_counts.new.writer ≡ Some xs) c.args.auditor.now c.print_lines.new.auditor _ _ _ (noted_in c.new-journal.result) (noted_in c.print_lines.new.journal)
    c.new-journal.ensures c.in_ok-print_lines.ensures.ok c.in_ok-print_lines.ensures.wrote)
    c.print_counts.ensures.ok

pub returns-clause-front : goal.returns-clause-front
returns-clause-front g c =
    on_err_weaker c.print_counts.result
    (counts_after (IsFront (g.O.Output.held c.print_counts.new.writer)) c.args.auditor.now c.print_lines.new.auditor _ _ _ (noted_in c.new-journal.result) (noted_in c.print_lines.new.journal)
    c.new-journal.ensures c.in_ok-print_lines.ensures.ok c.in_ok-print_lines.ensures.wrote)
    c.print_counts.ensures.front
