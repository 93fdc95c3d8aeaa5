use Rattle.desk_core.proofs.Segments.{InARow}
use Rattle.desk_core.proofs.records.are_chained.Given as goal

abbrev pub invariant-loop-at : goal.invariant-loop-at
invariant-loop-at l = InARow l.segments l.at
