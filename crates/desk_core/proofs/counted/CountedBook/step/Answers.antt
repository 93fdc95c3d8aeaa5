use Rattle.std.proofs.Common.{rules, arith, ap, subst, sym, ◌≡◌, ◌∙◌, ◌≤◌, ◌+◌, ℕ, Ok, inl, inr, max, refl}
use Rattle.std.proofs.lemmas.Result.{err_from_is_err_and}
use Rattle.conn_model.specs.History.{answer, entry, owned_event, Entry}
use Rattle.record_core.specs.Records.{history_of}
use Rattle.book_core.specs.Book.{book_answer, with_entry, BookState, IsBookFault}
use Rattle.desk_core.specs.Calls.{IsRefused}
use Rattle.desk_core.specs.Books.{moment_in, IsOf, MomentsRise}
use Rattle.desk_core.proofs.Closing.{answer_exhausted}
use Rattle.desk_core.proofs.Moments.{rise_on}
use Rattle.desk_core.proofs.Opened.{of_stepped}
use Rattle.desk_core.proofs.counted.CountedBook.step.Goals as goal

pub invariant_of-self-2 : goal.invariant_of-self-2
invariant_of-self-2 g c =
    let book : BookState = c.args.self.now.book in
    let more : Entry = entry c.max-moment.result (owned_event c.args.event.now) c.in_ok-receipt.receipt.reply in
    let next : c.step.new.self ≡ with_entry book more = c.in_ok-receipt.ensures.new in
    let late : book.state.clock ≤ c.max-moment.result = omega (arith, c.max-moment.ensures, c.args.self.now.greatest) in
    let made : c.step.new.self.made ≡ book.made + 1 = ap (λ (b : BookState). b.made) next in
    let clock = ap (λ (b : BookState). b.state.clock) next in
    record {
      counted = omega (arith, made, c.add.ensures.total, c.audit.ensures.total, c.args.self.now.counted);
      opened = subst (IsOf g.B.Opening.opening) (sym next) (of_stepped g.B.Opening.opening book more c.args.self.now.opened);
      greatest = omega (arith, clock, late);
      rise = subst MomentsRise (sym (ap (λ (b : BookState). b.records) next)) (rise_on book c.attest.ensures.legal.book c.attest.ensures.legal.rise more late);
    }

pub returns-clause-pass : goal.returns-clause-pass
returns-clause-pass g c =
    let book : BookState = c.args.self.now.book in
    let moment : c.max-moment.result ≡ moment_in book c.args.moment = c.max-moment.ensures ∙ ap (λ (n : ℕ). max n c.args.moment) c.args.self.now.greatest in
    record {
      book = book;
      legal = c.attest.ensures.legal;
      number = c.in_ok-receipt.ensures.number;
      reply = subst (λ (n : ℕ). answer book.base (history_of book.records) n (owned_event c.args.event.now) ≡ Ok c.in_ok-receipt.receipt.reply) moment c.in_ok-receipt.ensures.reply;
      call = search rules;
      calls = search rules;
    }

pub returns-then-made-clause-fault : goal.returns-then-made-clause-fault
returns-then-made-clause-fault g c = record {
  book = c.args.self.now.book;
  legal = c.attest.ensures.legal;
  is = inl (answer_exhausted c.args.self.now.book (moment_in c.args.self.now.book c.args.moment) (owned_event c.args.event.now) (sym c.made.ensures ∙ c.if-made.true));
}

pub returns-in_default-clause-fault : goal.returns-in_default-clause-fault
returns-in_default-clause-fault g c = record {
  book = c.args.self.now.book;
  legal = c.attest.ensures.legal;
  is = inr (refl, omega (arith, c.made.ensures));
}

pub returns-in_err-receipt-clause-fault : goal.returns-in_err-receipt-clause-fault
returns-in_err-receipt-clause-fault g c =
    let book : BookState = c.args.self.now.book in
    let moment : c.max-moment.result ≡ moment_in book c.args.moment = c.max-moment.ensures ∙ ap (λ (n : ℕ). max n c.args.moment) c.args.self.now.greatest in
    let p = err_from_is_err_and c.from_residual.result c.from_residual.ensures.1 in
    let refused : IsRefused g.B.Opening.opening c.args.moment (owned_event c.args.event.now) c.in_err-receipt.field-0.0 = record {
      book = book;
      legal = c.attest.ensures.legal;
      is = subst (λ (n : ℕ). IsBookFault book (book_answer book n (owned_event c.args.event.now)) c.in_err-receipt.field-0.0) moment c.in_err-receipt.ensures.fault;
    } in
    rw (p.1, p.2) refused
