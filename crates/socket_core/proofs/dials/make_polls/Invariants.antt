use Rattle.std.proofs.Common.{◌≡◌, vec_len}
use Rattle.socket_core.proofs.dials.make_polls.Given as goal

abbrev pub invariant-loop-worker : goal.invariant-loop-worker
invariant-loop-worker g l = vec_len l.polls ≡ l._worker
