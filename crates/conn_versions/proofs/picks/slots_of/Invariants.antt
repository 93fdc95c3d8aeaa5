use Rattle.std.proofs.Common.{◌≡◌, length}
use Rattle.conn_versions.specs.Slots.{AreAtPlaces, AreNamed, KeepsPlaces}
use Rattle.conn_versions.proofs.picks.slots_of.Given as goal

abbrev pub invariant-loop-server : goal.invariant-loop-server
invariant-loop-server l = record {
  many : length l.places ≡ l.server-index;
  each : AreAtPlaces l.slots l.backend l.places;
  is_named : AreNamed l.named l.places;
  keeps : KeepsPlaces l.fn.slots l.fn.named l.slots l.named;
}
