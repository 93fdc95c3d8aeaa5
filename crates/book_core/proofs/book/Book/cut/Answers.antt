use Rattle.std.proofs.Common.{◌≡◌, ◌+◌, ◌-◌, ◌++◌, ◌∷◌, [], length, ap, arith, ◌∙◌, subst, sym}
use Rattle.rtrb.specs.Ring.{sent}
use Rattle.book_core.specs.Book.{after_cut, segment_of, state_of, BookState, IsBook}
use Rattle.book_core.proofs.BookLemmas.{book_cut, journal_length, made_by_cut}
use Rattle.book_core.proofs.book.Book.cut.Goals as goal

pub invariant_of-self-2 : goal.invariant_of-self-2
invariant_of-self-2 c =
    let before : BookState = state_of c.self.inside.base c.self.inside.journal.items c.self.inside.segments c.self.inside.core c.self.inside.made in
    let first : c.self.inside.made - c.len.result + 1 ≡ before.made + 1 - length before.journal = omega (arith, journal_length before c.self.invariant, c.len.ensures) in
    let more : sent c.push_reserved.new.self ≡ sent before.segments ++ segment_of before ∷ [] = cc in
    let none : c.replace-records.new.dest.items ≡ [] = cc in
    subst IsBook (sym (made_by_cut before c.replace-records.new.dest.items c.push_reserved.new.self c.self.invariant none more)) (book_cut before c.push_reserved.new.self c.self.invariant more)

pub returns-clause-new : goal.returns-clause-new
returns-clause-new c =
    let before : BookState = state_of c.self.inside.base c.self.inside.journal.items c.self.inside.segments c.self.inside.core c.self.inside.made in
    let first : c.self.inside.made - c.len.result + 1 ≡ before.made + 1 - length before.journal = omega (arith, journal_length before c.self.invariant, c.len.ensures) in
    let more : sent c.push_reserved.new.self ≡ sent before.segments ++ segment_of before ∷ [] = cc in
    let none : c.replace-records.new.dest.items ≡ [] = cc in
    made_by_cut before c.replace-records.new.dest.items c.push_reserved.new.self c.self.invariant none more ∙ ap (λ b. after_cut b c.push_reserved.new.self) c.self.view_is

pub returns-clause-legal : goal.returns-clause-legal
returns-clause-legal c = invariant_of-self-2 c
