use Rattle.std.proofs.Common.{◌≡◌, ◌+◌, ◌++◌, length}
use Rattle.rtrb.specs.Ring.{known_items, received, sent}
use Rattle.crew_core.specs.Outlets.{HasHandedOn}
use Rattle.crew_core.proofs.outlet.empty.Given as goal

abbrev pub invariant-loop-segment : goal.invariant-loop-segment
invariant-loop-segment g l =
    HasHandedOn g.S.Sink.takes g.S.Sink.refuses l.fn.refused l.fn.outlet l.total l.outlet
    × (received l.outlet.segments ++ known_items l.outlet.segments ≡ sent l.shut.book.segments)
    × (length (known_items l.outlet.segments) + l._segment ≡ length (known_items l.initial.outlet.segments))
