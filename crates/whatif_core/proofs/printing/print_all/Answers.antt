use Rattle.std.proofs.lemmas.Result.{on_err_weaker}
use Rattle.audit_core.proofs.WriteLemmas.{on_err_always}
use Rattle.whatif_core.specs.Noting.{noted_in}
use Rattle.whatif_core.proofs.WriteLemmas.{lines_front, ok_by_both, sums_front, sums_wrote}
use Rattle.whatif_core.proofs.printing.print_all.Goals as goal

pub returns-in_err-print_lines-clause-front : goal.returns-in_err-print_lines-clause-front
returns-in_err-print_lines-clause-front g c =
    on_err_always c.from_residual.result
    (λ text sent left held.
    lines_front c.args.summary sent c.args.twin.now text _ (noted_in c.new-journal.result) c.new-journal.ensures (λ rest. c.in_err-print_lines.ensures.front text sent rest left held))

pub returns-clause-front : goal.returns-clause-front
returns-clause-front g c =
    on_err_weaker c.print_sums.result
    (λ prints text sent left held.
    sums_front c.args.summary sent c.args.twin.now text _ _ (noted_in c.new-journal.result) (noted_in c.print_lines.new.journal) c.print_lines.new.twin c.new-journal.ensures
    (c.in_ok-print_lines.ensures.wrote text sent left held) prints)
    c.print_sums.ensures.front

pub returns-clause-ok : goal.returns-clause-ok
returns-clause-ok g c =
    ok_by_both c.print_sums.result c.print_sums.ensures.ok c.print_sums.ensures.differing
    (λ prints differing counts text sent left held.
    sums_wrote c.args.summary sent c.args.twin.now text _ _ (noted_in c.new-journal.result) (noted_in c.print_lines.new.journal) c.print_lines.new.twin differing c.new-journal.ensures
    (c.in_ok-print_lines.ensures.wrote text sent left held) prints counts)
