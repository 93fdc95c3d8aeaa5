use Rattle.std.proofs.Common.{◌≡◌, ◌≤◌, ◌+◌, vec_capacity, vec_len}
use Rattle.std.specs.Prelude.{sum_by}
use Rattle.desk_core.specs.Leased.{leases_in}
use Rattle.crew_core.proofs.crew.leases_alone.Given as goal

abbrev pub invariant-loop-list : goal.invariant-loop-list
invariant-loop-list g l =
    (vec_len l.left + vec_len l.lists ≤ vec_capacity l.left)
    × (sum_by (λ leases. vec_len leases) l.left.items + leases_in l.lists.items ≡ leases_in l.fn.lists.items)

abbrev pub decreases-loop-list : goal.decreases-loop-list
decreases-loop-list g l = vec_len l.lists
