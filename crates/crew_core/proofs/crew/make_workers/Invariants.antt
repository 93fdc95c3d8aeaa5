use Rattle.std.proofs.Common.{◌≡◌, ◌+◌, vec_capacity, vec_len}
use Rattle.crew_core.proofs.crew.make_workers.Given as goal

abbrev pub invariant-loop-dial : goal.invariant-loop-dial
invariant-loop-dial g l =
    (vec_len l.states ≡ vec_len l.dials)
    × (vec_len l.workers + vec_len l.dials ≡ vec_len l.initial.dials)
    × (l.desk.given ≡ vec_len l.workers + 1)
    × (vec_capacity l.workers ≡ vec_capacity l.initial.workers)

abbrev pub decreases-loop-dial : goal.decreases-loop-dial
decreases-loop-dial g l = vec_len l.dials
