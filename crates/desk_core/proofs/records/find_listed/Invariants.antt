use Rattle.desk_core.proofs.Segments.{HaveNone}
use Rattle.desk_core.proofs.records.find_listed.Given as goal

abbrev pub invariant-loop-segment : goal.invariant-loop-segment
invariant-loop-segment l = HaveNone l.segments l.number 0 l.segment-index
