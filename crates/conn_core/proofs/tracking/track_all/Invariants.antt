use Rattle.conn_core.proofs.TrackedLemmas.{IsTracked}
use Rattle.conn_core.proofs.tracking.track_all.Given as goal

abbrev pub invariant-loop-slot : goal.invariant-loop-slot
invariant-loop-slot l = IsTracked l.initial.rows l.rows l.id l.slot-index l.tracks
