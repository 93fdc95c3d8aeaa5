use Rattle.std.proofs.Common.{◌≡◌, ℕ, ◌<◌, Some, length}
use Rattle.std.specs.Prelude.{slice_get}
use Rattle.conn_versions.specs.declared.versions.VersionPicks.{VersionPicks}
use Rattle.conn_versions.specs.Kept.{AreAllNoted}
use Rattle.conn_versions.proofs.versions.named_places.Given as goal

abbrev pub invariant-loop-own : goal.invariant-loop-own
invariant-loop-own l = record {
  many : length l.named ≡ length l.slots;
  noted : (n : ℕ) (own : VersionPicks) → n < l.own-index → slice_get l.picks n ≡ Some own → AreAllNoted l.named own.backends.items;
}
