use Rattle.book_core.proofs.BookLemmas.{legal_on, state_on}
use Rattle.book_core.proofs.laws.records_go_on.Goals as goal

pub returns : goal.returns
returns c = record { legal = legal_on; state = state_on }
