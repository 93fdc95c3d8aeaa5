use Rattle.std.proofs.Common.{◌≡◌, ℕ, false, length, nat_lt}
use Rattle.std.specs.Prelude.{if◌then◌else◌}
use Rattle.proxy_types.specs.declared.limits.TheConstants.{MOST_SERVERS}
use Rattle.balance_core.specs.Loads.{has_room_at, room_in}
use Rattle.balance_core.proofs.load.Rooms.of.Given as goal

-- the servers before it were asked
abbrev pub invariant-loop-number : goal.invariant-loop-number
invariant-loop-number g l =
    (length l.rooms ≡ MOST_SERVERS)
    × ((k : ℕ) → room_in l.rooms k ≡ (if nat_lt k l.number then has_room_at (g.L.Load.servers l.load) k else false))
