use Rattle.std.proofs.Common.{◌≡◌, ◌≤◌, ◌+◌, vec_capacity, vec_len}
use Rattle.desk_core.specs.Calls.{calls_of}
use Rattle.crew_core.proofs.crew.take_apart.Given as goal

abbrev pub invariant-loop-worker : goal.invariant-loop-worker
invariant-loop-worker g l =
    (vec_len l.passes + vec_len l.workers ≡ vec_len l.initial.passes + vec_len l.initial.workers)
    × (vec_len l.lists + vec_len l.workers ≡ vec_len l.initial.lists + vec_len l.initial.workers)
    × (vec_len l.dials + vec_len l.workers ≡ vec_len l.initial.dials + vec_len l.initial.workers)
    × (vec_capacity l.passes ≡ vec_capacity l.initial.passes)
    × (vec_capacity l.lists ≡ vec_capacity l.initial.lists)
    × (vec_capacity l.dials ≡ vec_capacity l.initial.dials)
    × (calls_of l.initial.passes.items + l.closed ≤ calls_of l.passes.items)

abbrev pub decreases-loop-worker : goal.decreases-loop-worker
decreases-loop-worker g l = vec_len l.workers
