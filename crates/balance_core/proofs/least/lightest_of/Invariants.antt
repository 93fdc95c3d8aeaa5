use Rattle.std.proofs.Common.{◌-◌, ◌≡◌, ◌≤◌, ◌++◌, List, ℕ, filter}
use Rattle.std.specs.Prelude.{IfSome}
use Rattle.std.specs.List.{range_with_len}
use Rattle.balance_core.specs.Loads.{is_ready_at}
use Rattle.balance_core.specs.Orders.{least}
use Rattle.balance_core.specs.Least.{is_lighter, number_of, IsSeen}
use Rattle.balance_core.proofs.least.lightest_of.Given as goal

abbrev pub invariant-loop-number : goal.invariant-loop-number
invariant-loop-number g l =
    (l.begin ≤ l.number)
    × (l.number ≤ l.end)
    × ((rest : List ℕ) → number_of l.fn.later ≡ least (is_lighter (g.L.Load.servers l.load)) rest →
    number_of l.lightest ≡ least (is_lighter (g.L.Load.servers l.load)) (filter (is_ready_at (g.L.Load.servers l.load)) (range_with_len l.number (l.end - l.number)) ++ rest))
    × IfSome l.lightest (IsSeen (g.L.Load.servers l.load))

abbrev pub decreases-loop-number : goal.decreases-loop-number
decreases-loop-number g l = l.number
