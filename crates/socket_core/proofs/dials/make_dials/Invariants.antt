use Rattle.std.proofs.Common.{◌≡◌, ◌+◌, vec_len}
use Rattle.socket_core.proofs.dials.make_dials.Given as goal

abbrev pub invariant-loop-poll : goal.invariant-loop-poll
invariant-loop-poll g l = vec_len l.dials + vec_len l.polls ≡ l.fn.workers

abbrev pub decreases-loop-poll : goal.decreases-loop-poll
decreases-loop-poll g l = vec_len l.polls
