use Rattle.std.proofs.Common.{Some, ap}
use Rattle.std.specs.Prelude.{option_map}
use Rattle.std.proofs.lemmas.Result.{on_ok_weaker}
use Rattle.audit_core.specs.Ended.{brought, known_on, line_on}
use Rattle.audit_core.specs.Printing.{noted_in}
use Rattle.audit_core.specs.declared.journal.Known.{Known}
use Rattle.audit_core.proofs.NotedLemmas.{said_noted}
use Rattle.audit_core.proofs.journal.AuditJournal.note.Goals as goal

pub returns-in-Wait : goal.returns-in-Wait
returns-in-Wait c =
    let known = (noted_in c.args.self.now).known in
    on_ok_weaker c.note_wait.result
    (said_noted (noted_in c.note_wait.new.self) (noted_in c.args.self.now) c.in-Wait.id (brought c.args.peer) c.args.peer c.args.reply.now.said
    (ap (known_on known c.args.peer) c.in-Wait.is) (ap (line_on known c.args.peer) c.in-Wait.is))
    c.note_wait.ensures

pub returns-in-Offer : goal.returns-in-Offer
returns-in-Offer c =
    let known = (noted_in c.args.self.now).known in
    on_ok_weaker c.note_offer.result
    (λ is.
    said_noted (noted_in c.note_offer.new.self) (noted_in c.args.self.now) c.in-Offer.id
    (λ before. option_map (λ (k : Known). record { peer = k.peer; offered = Some (c.in-Offer.judged.source, c.in-Offer.line) }) (brought c.args.peer before)) c.args.peer c.args.reply.now.said
    (ap (known_on known c.args.peer) c.in-Offer.is) (ap (line_on known c.args.peer) c.in-Offer.is) (rw c.source.ensures.value at is))
    c.note_offer.ensures
