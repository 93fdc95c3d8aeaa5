use Rattle.std.proofs.Common.{Some, ap}
use Rattle.audit_core.proofs.NotedLemmas.{updated}
use Rattle.audit_core.proofs.journal.AuditJournal.remember.Goals as goal

pub returns-in-Ok : goal.returns-in-Ok
returns-in-Ok c =
    ap (λ known. record { known = known; unsent = c.args.self.now.unsent.items })
    (updated c.args.self.now.known c.insert.new.self c.args.id.now (Some c.args.known) (rw c.of.ensures at c.in-Ok.ensures.updates))
