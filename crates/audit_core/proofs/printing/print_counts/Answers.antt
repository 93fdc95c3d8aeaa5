use Rattle.std.proofs.Common.{[], ap}
use Rattle.std.proofs.lemmas.Result.{on_err_weaker}
use Rattle.audit_core.specs.Ended.{counts_text}
use Rattle.audit_core.specs.Printing.{counts_at, noted_in}
use Rattle.audit_core.proofs.WriteLemmas.{counts_sent}
use Rattle.audit_core.proofs.printing.print_counts.Goals as goal

pub returns-in-Ok-add_counts-clause-front : goal.returns-in-Ok-add_counts-clause-front
returns-in-Ok-add_counts-clause-front g c =
    on_err_weaker c.send.result
    (λ front sent is.
    counts_sent _ sent (noted_in c.args.journal.now).unsent (counts_text (counts_at c.args.auditor.now)) (noted_in c.add_counts.new.self)
    (ap (λ n. n.unsent) (rw (c.records.ensures.count, c.in-Ok.ensures) at c.in-Ok-add_counts.ensures)) (front sent [] is))
    c.send.ensures.front
