use Rattle.std.proofs.Common.{◌≡◌, vec_len}
use Rattle.crew_core.proofs.crew.make_rooms.Given as goal

abbrev pub invariant-loop-worker : goal.invariant-loop-worker
invariant-loop-worker g l = vec_len l.states ≡ l._worker
