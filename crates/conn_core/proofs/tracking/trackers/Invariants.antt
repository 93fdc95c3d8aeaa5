use Rattle.std.proofs.Common.{◌≡◌, ◌≤◌, ◌+◌, drop}
use Rattle.rule_engine.specs.Meaning.{present}
use Rattle.conn_model.specs.Tables.{trackers}
use Rattle.conn_core.proofs.tracking.trackers.Given as goal

abbrev pub invariant-loop-slot : goal.invariant-loop-slot
invariant-loop-slot l = record {
  sum : l.count + trackers (present (drop l.slot-index l.tracks)) l.id l.key ≡ trackers (present l.tracks) l.id l.key;
  few : l.count ≤ l.slot-index;
}
