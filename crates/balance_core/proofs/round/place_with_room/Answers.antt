use Rattle.std.proofs.Common.{◌-◌, ℕ, Bool, length, sym, ◌∙◌}
use Rattle.std.specs.List.{range_with_len}
use Rattle.std.proofs.Math.Nat.{sub-zero}
use Rattle.balance_core.specs.Loads.{first_after, room_in}
use Rattle.balance_core.specs.Cycles.{passes_at, placed_at}
use Rattle.balance_core.proofs.RangeLemmas.{found_first, found_then}
use Rattle.balance_core.proofs.RoundLemmas.{no_place}
use Rattle.balance_core.proofs.round.place_with_room.Goals as goal

pub returns-in-Some : goal.returns-in-Some
returns-in-Some c =
    let cycle = c.args.places.now in
    let test : ℕ → Bool = passes_at (room_in c.args.rooms.now) cycle in
    let begin = first_after c.args.last (length cycle) in
    found_first (placed_at cycle) test (range_with_len begin (length cycle - begin)) (range_with_len 0 begin) c.in-Some.placed
    (rw c.begin_after-begin.ensures at c.in-Some.ensures)

pub returns-in-None : goal.returns-in-None
returns-in-None c =
    let cycle = c.args.places.now in
    let test : ℕ → Bool = passes_at (room_in c.args.rooms.now) cycle in
    let begin = first_after c.args.last (length cycle) in
    rw (c.begin_after-begin.ensures, sub-zero begin) at c.first_with_room-in-None.ensures
    ∙ found_then (placed_at cycle) test (range_with_len begin (length cycle - begin)) (range_with_len 0 begin)
    (rw c.begin_after-begin.ensures at c.in-None.ensures)

pub returns-then-not-any : goal.returns-then-not-any
returns-then-not-any c = sym (no_place c.args.rooms.now c.args.places.now c.args.last (sym c.any.ensures ∙ c.if-not-any.true))
