use Rattle.std.proofs.Common.{rules, ◌≡◌, ◌≤◌, ◌<◌, ◌+◌, ap, arith, ◌∙◌}
use Rattle.std.proofs.lemmas.Result.{err_from_is_err_and}
use Rattle.conn_model.specs.History.{entry, owned_event, Entry}
use Rattle.record_core.specs.Records.{history_of}
use Rattle.conn_model.specs.Counts.{open_connections}
use Rattle.book_core.specs.Book.{state_of, with_entry, BookState, MOST_RECORDS}
use Rattle.book_core.proofs.BookLemmas.{book_goes_on, fault_in_book, made_by_step, state_few, state_well}
use Rattle.book_core.proofs.OpenLemmas.{open_after_answer}
use Rattle.book_core.proofs.book.Book.step.Goals as goal

pub invariant_of-self-2 : goal.invariant_of-self-2
invariant_of-self-2 c =
    let before : BookState = state_of c.self.inside.base c.self.inside.journal.items c.self.inside.segments c.self.inside.core c.self.inside.made in
    let stepped = c.in_ok-reply.ensures.reply c.self.inside.base (history_of before.records) c.self.invariant.well c.self.invariant.legal c.self.invariant.state in
    rw (c.push_reserved.ensures.items, c.reserve.ensures.items, c.in-Ok-copy_event.ensures.copy)
    (book_goes_on before c.args.moment (owned_event c.args.event.now) c.in_ok-reply.reply c.step.new.self c.self.invariant stepped.0 stepped.1
    (omega (arith, c.ranges.moment)) (c.in-Ok-copy_event.ensures.handed_in c.requires.piece))

pub returns-clause-new : goal.returns-clause-new
returns-clause-new c =
    let before : BookState = state_of c.self.inside.base c.self.inside.journal.items c.self.inside.segments c.self.inside.core c.self.inside.made in
    let e : Entry = entry c.args.moment (owned_event c.args.event.now) c.in_ok-reply.reply in
    rw (c.push_reserved.ensures.items, c.reserve.ensures.items, c.in-Ok-copy_event.ensures.copy, c.copy_reply.ensures)
    (made_by_step before e c.step.new.self c.self.invariant c.in_ok-reply.ensures.plain_new ∙ ap (λ b. with_entry b e) c.self.view_is)

pub returns-clause-legal : goal.returns-clause-legal
returns-clause-legal c = invariant_of-self-2 c

pub returns-clause-open_connections : goal.returns-clause-open_connections
returns-clause-open_connections c =
    let before : BookState = state_of c.self.inside.base c.self.inside.journal.items c.self.inside.segments c.self.inside.core c.self.inside.made in
    let state : c.self.inside.core ≡ c.args.self.now.state = ap (λ b. b.state) c.self.view_is in
    rw (c.copy_reply.ensures, c.in_ok-reply.ensures.plain_new, ← state)
    (open_after_answer c.self.inside.core (state_well before c.self.invariant) c.args.moment (owned_event c.args.event.now) c.in_ok-reply.reply c.in_ok-reply.ensures.plain_reply)

pub returns-clause-few : goal.returns-clause-few
returns-clause-few c =
    let before : BookState = state_of c.self.inside.base c.self.inside.journal.items c.self.inside.segments c.self.inside.core c.self.inside.made in
    let few : open_connections before.state ≤ open_connections before.base + before.made = state_few before c.self.invariant in
    rw (← c.self.view_is) (search rules, omega (arith, few))

pub returns-in_err-reply-clause-fault : goal.returns-in_err-reply-clause-fault
returns-in_err-reply-clause-fault c =
    let before : BookState = state_of c.self.inside.base c.self.inside.journal.items c.self.inside.segments c.self.inside.core c.self.inside.made in
    let few : before.made < MOST_RECORDS = search rules in
    let p = err_from_is_err_and c.from_residual.result c.from_residual.ensures.1 in
    rw (p.1, p.2, ← c.self.view_is) (fault_in_book before c.args.moment (owned_event c.args.event.now) c.in_err-reply.field-0.0 few c.in_err-reply.ensures.plain_fault)
