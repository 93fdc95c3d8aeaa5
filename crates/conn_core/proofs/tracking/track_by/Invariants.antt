use Rattle.std.proofs.Common.{◌≡◌, ◌==◌, find, drop}
use Rattle.rule_engine.specs.Meaning.{present}
use Rattle.conn_core.proofs.tracking.track_by.Given as goal

abbrev pub invariant-loop-slot : goal.invariant-loop-slot
invariant-loop-slot l = find (λ track. track.counter == l.counter) (present (drop l.slot-index l.tracks)) ≡ find (λ track. track.counter == l.counter) (present l.tracks)
