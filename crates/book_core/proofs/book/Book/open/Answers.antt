use Rattle.std.proofs.Common.{subst, sym}
use Rattle.book_core.specs.Book.{IsBook}
use Rattle.book_core.proofs.BookLemmas.{book_begins, made_by_open}
use Rattle.book_core.proofs.book.Book.open.Goals as goal

pub invariant_of-result : goal.invariant_of-result
invariant_of-result c =
    rw (c.in-Ok.ensures.plain, c.new.ensures.items)
    (subst IsBook (sym (made_by_open c.args.core c.args.segments c.requires)) (book_begins c.args.core c.args.segments c.plain.ensures.well c.requires))

pub returns-in-Ok-clause-ok : goal.returns-in-Ok-clause-ok
returns-in-Ok-clause-ok c = rw (c.in-Ok.ensures.plain, c.new.ensures.items) (made_by_open c.args.core c.args.segments c.requires)

pub returns-in-Ok-clause-legal : goal.returns-in-Ok-clause-legal
returns-in-Ok-clause-legal c = invariant_of-result c
