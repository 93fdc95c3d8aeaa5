use Rattle.std.proofs.Common.{◌≡◌, ◌+◌, vec_len}
use Rattle.desk_core.specs.Calls.{calls_of, AreWhole}
use Rattle.desk_core.proofs.settling.gather.Given as goal

abbrev pub invariant-loop-pass : goal.invariant-loop-pass
invariant-loop-pass g l =
    (l.pool.parts + vec_len l.passes ≡ l.initial.pool.parts + vec_len l.initial.passes)
    × (l.pool.amount + calls_of l.passes.items ≡ l.initial.pool.amount + calls_of l.initial.passes.items)
    × (AreWhole l.passes.items → AreWhole l.initial.passes.items)

abbrev pub decreases-loop-pass : goal.decreases-loop-pass
decreases-loop-pass g l = vec_len l.passes
