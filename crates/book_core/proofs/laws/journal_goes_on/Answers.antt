use Rattle.book_core.proofs.BookLemmas.{journal_first, journal_numbers}
use Rattle.book_core.proofs.laws.journal_goes_on.Goals as goal

pub returns : goal.returns
returns c = record { first = journal_first; numbers = journal_numbers }
