use Rattle.std.proofs.Common.{◌≡◌, ◌+◌, ◌-◌, find, length, nat_lt, take}
use Rattle.std.specs.List.{range_with_len}
use Rattle.balance_core.specs.Loads.{total_weight}
use Rattle.balance_core.specs.Source.{share_of}
use Rattle.balance_core.proofs.source.server_at.Given as goal

abbrev pub invariant-loop-server : goal.invariant-loop-server
invariant-loop-server g l =
    (l.number ≡ l.rest + total_weight (take l.server (g.L.Load.servers l.load)))
    × (share_of (g.L.Load.servers l.load) l.number
    ≡ find (λ k. nat_lt l.number (total_weight (take (k + 1) (g.L.Load.servers l.load)))) (range_with_len l.server (length (g.L.Load.servers l.load) - l.server)))
