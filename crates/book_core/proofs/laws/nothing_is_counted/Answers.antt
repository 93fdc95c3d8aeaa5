use Rattle.book_core.proofs.Nothing.{nothing_counted}
use Rattle.book_core.proofs.laws.nothing_is_counted.Goals as goal

pub returns : goal.returns
returns c = nothing_counted
