use Rattle.std.proofs.Common.{◌≡◌, ◌+◌, ◌++◌, reverse, vec_capacity, vec_len}
use Rattle.desk_core.specs.Leased.{ids_of}
use Rattle.desk_core.proofs.bounding.take_back.Given as goal

abbrev pub invariant-loop-id : goal.invariant-loop-id
invariant-loop-id g l =
    (ids_of l.leases.items ++ reverse l.ids.items ≡ reverse l.initial.ids.items)
    × (vec_len l.leases + vec_len l.ids ≡ vec_len l.initial.ids)
    × (vec_capacity l.leases ≡ vec_capacity l.initial.leases)
    × (vec_capacity l.ids ≡ vec_capacity l.initial.ids)
    × (l.units.parts + vec_len l.initial.ids ≡ l.initial.units.parts + vec_len l.ids)
    × (l.units.amount + vec_len l.initial.ids ≡ l.initial.units.amount + vec_len l.ids)

abbrev pub decreases-loop-id : goal.decreases-loop-id
decreases-loop-id g l = vec_len l.ids
