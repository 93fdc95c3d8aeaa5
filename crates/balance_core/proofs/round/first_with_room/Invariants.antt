use Rattle.std.proofs.Common.{◌≡◌, ◌-◌, find}
use Rattle.std.specs.List.{range_with_len}
use Rattle.balance_core.specs.Loads.{room_in}
use Rattle.balance_core.specs.Cycles.{passes_at}
use Rattle.balance_core.proofs.round.first_with_room.Given as goal

abbrev pub invariant-loop-n : goal.invariant-loop-n
invariant-loop-n l =
    find (passes_at (room_in l.rooms) l.places) (range_with_len l.begin (l.end - l.begin)) ≡ find (passes_at (room_in l.rooms) l.places) (range_with_len l.n (l.end - l.n))
