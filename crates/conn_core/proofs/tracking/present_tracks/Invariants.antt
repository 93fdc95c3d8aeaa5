use Rattle.std.proofs.Common.{◌≡◌, ◌≤◌, ◌++◌, drop, length}
use Rattle.rule_engine.specs.Meaning.{present}
use Rattle.conn_core.proofs.tracking.present_tracks.Given as goal

abbrev pub invariant-loop-slot : goal.invariant-loop-slot
invariant-loop-slot l = record {
  all : l.all.items ++ present (drop l.slot-index l.tracks) ≡ present l.tracks;
  few : length l.all.items ≤ l.slot-index;
}
