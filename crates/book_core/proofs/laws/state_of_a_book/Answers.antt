use Rattle.book_core.proofs.BookLemmas.{state_few, state_well}
use Rattle.book_core.proofs.laws.state_of_a_book.Goals as goal

pub returns : goal.returns
returns c = record { well = state_well; few = state_few }
