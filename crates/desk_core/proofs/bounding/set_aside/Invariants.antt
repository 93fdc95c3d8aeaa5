use Rattle.std.proofs.Common.{◌≡◌, ◌+◌, ◌++◌, reverse, vec_capacity, vec_len}
use Rattle.desk_core.specs.Leased.{ids_of}
use Rattle.desk_core.proofs.bounding.set_aside.Given as goal

abbrev pub invariant-loop-lease : goal.invariant-loop-lease
invariant-loop-lease g l =
    (l.ids.items ++ reverse (ids_of l.leases.items) ≡ reverse (ids_of l.initial.leases.items))
    × (vec_len l.ids + vec_len l.leases ≡ vec_len l.initial.leases)
    × (vec_capacity l.leases ≡ vec_capacity l.initial.leases)
    × (vec_capacity l.ids ≡ vec_capacity l.initial.ids)
    × (l.units.parts + vec_len l.leases ≡ l.initial.units.parts + vec_len l.initial.leases)
    × (l.units.amount + vec_len l.leases ≡ l.initial.units.amount + vec_len l.initial.leases)

abbrev pub decreases-loop-lease : goal.decreases-loop-lease
decreases-loop-lease g l = vec_len l.leases
