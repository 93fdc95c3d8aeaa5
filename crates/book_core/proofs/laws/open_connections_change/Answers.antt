use Rattle.book_core.proofs.OpenLemmas.{none_open, open_after_answer}
use Rattle.book_core.proofs.laws.open_connections_change.Goals as goal

pub returns : goal.returns
returns c = record { opening = none_open; step = open_after_answer }
