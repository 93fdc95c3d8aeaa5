use Rattle.std.proofs.Common.{◌≡◌, vec_len}
use Rattle.crew_tests.proofs.tests.play.dials.Given as goal

abbrev pub invariant-loop-worker : goal.invariant-loop-worker
invariant-loop-worker g l = vec_len l.dials ≡ l.worker
