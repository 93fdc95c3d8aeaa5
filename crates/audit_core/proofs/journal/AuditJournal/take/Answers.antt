use Rattle.std.proofs.Common.{None, ap}
use Rattle.audit_core.proofs.NotedLemmas.{updated}
use Rattle.audit_core.proofs.journal.AuditJournal.take.Goals as goal

pub returns-clause-after : goal.returns-clause-after
returns-clause-after c =
    ap (λ known. record { known = known; unsent = c.args.self.now.unsent.items })
    (updated c.args.self.now.known c.remove-before.new.self c.args.id.now None (rw c.of.ensures at c.remove-before.ensures.updates))
