use Rattle.std.proofs.Common.{◌≡◌, ◌≤◌, ◌+◌, ◌^◌, MatchOption, vec_len}
use Rattle.std.specs.Prelude.{sum_by}
use Rattle.desk_core.proofs.settling.spend_all.Given as goal

abbrev pub invariant-loop-leases : goal.invariant-loop-leases
invariant-loop-leases g l =
    MatchOption l.count (2 ^ 64 ≤ sum_by (λ leases. vec_len leases) l.initial.left.items) (λ n. n + sum_by (λ leases. vec_len leases) l.left.items ≡ sum_by (λ leases. vec_len leases) l.initial.left.items)

abbrev pub decreases-loop-leases : goal.decreases-loop-leases
decreases-loop-leases g l = vec_len l.left
