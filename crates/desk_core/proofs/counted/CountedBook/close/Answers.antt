use Rattle.std.proofs.Common.{rules}
use Rattle.desk_core.proofs.Closing.{close_says}
use Rattle.desk_core.proofs.counted.CountedBook.close.Goals as goal

pub returns-clause-said : goal.returns-clause-said
returns-clause-said g c = search (rules, close_says)

pub returns-clause-open_connections : goal.returns-clause-open_connections
returns-clause-open_connections g c = search (rules, close_says)
