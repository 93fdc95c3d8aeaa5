use Rattle.std.proofs.lemmas.Result.{on_ok_weaker}
use Rattle.audit_core.specs.Printing.{noted_in}
use Rattle.audit_core.proofs.NotedLemmas.{offer_noted}
use Rattle.audit_core.proofs.journal.AuditJournal.note_offer.Goals as goal

pub returns-in-Some : goal.returns-in-Some
returns-in-Some c =
    on_ok_weaker c.remember.result
    (λ is. offer_noted (noted_in c.remember.new.self) (noted_in c.take.new.self) (noted_in c.args.self.now) c.args.id.now _ c.in-Some.known c.args.offer c.in-Some.ensures.known c.take.ensures.after is)
    c.remember.ensures
