use Rattle.std.proofs.Common.{◌≡◌, ◌∙◌, subst, sym, ap}
use Rattle.book_core.specs.Book.{BookState}
use Rattle.desk_core.specs.Books.{IsDeskBook, MomentsRise}
use Rattle.desk_core.proofs.Cutting.{cut_of, not_cut_of, rest_same, still_of_desk}
use Rattle.desk_core.proofs.Opened.{of_later}
use Rattle.desk_core.proofs.counted.CountedBook.cut.Goals as goal

pub invariant_of-self : goal.invariant_of-self
invariant_of-self g c =
    let before : BookState = c.args.self.now.book in
    let after : BookState = c.cut.new.self in
    let same : after ≡ record before { journal = after.journal; segments = after.segments } = rest_same c.cut.result before after c.cut.ensures.new c.cut.ensures.err in
    record {
      counted = ap (λ (b : BookState). b.made) same ∙ c.args.self.now.counted;
      opened = of_later g.B.Opening.opening before after (ap (λ (b : BookState). b.base) same) c.cut.ensures.ring c.args.self.now.opened;
      greatest = c.args.self.now.greatest ∙ sym (ap (λ (b : BookState). b.state.clock) same);
      rise = subst MomentsRise (sym (ap (λ (b : BookState). b.records) same)) c.args.self.now.rise;
    }

pub returns-clause-cut : goal.returns-clause-cut
returns-clause-cut g c =
    let before : BookState = c.args.self.now.book in
    let after : BookState = c.cut.new.self in
    let same : after ≡ record before { journal = after.journal; segments = after.segments } = rest_same c.cut.result before after c.cut.ensures.new c.cut.ensures.err in
    let later : IsDeskBook g.B.Opening.opening after = still_of_desk g.B.Opening.opening before after c.attest.ensures.legal c.cut.ensures.legal c.cut.ensures.ring same in
    cut_of c.cut.result g.B.Opening.opening before after c.attest.ensures.legal later c.cut.ensures.nothing c.cut.ensures.sent c.cut.ensures.new

pub returns-clause-fault : goal.returns-clause-fault
returns-clause-fault g c =
    let before : BookState = c.args.self.now.book in
    let after : BookState = c.cut.new.self in
    let same : after ≡ record before { journal = after.journal; segments = after.segments } = rest_same c.cut.result before after c.cut.ensures.new c.cut.ensures.err in
    let later : IsDeskBook g.B.Opening.opening after = still_of_desk g.B.Opening.opening before after c.attest.ensures.legal c.cut.ensures.legal c.cut.ensures.ring same in
    not_cut_of c.cut.result g.B.Opening.opening before after c.attest.ensures.legal later c.cut.ensures.nothing c.cut.ensures.full
