use Rattle.std.proofs.Common.{◌≡◌, length}
use Rattle.std.specs.List.{AllByRecursion}
use Rattle.conn_versions.specs.Slots.{AreNamed, KeepsPlaces}
use Rattle.conn_versions.specs.Kept.{AreCounted}
use Rattle.conn_versions.proofs.Moves.{AreNew}
use Rattle.conn_versions.proofs.versions.picks_of_all.Given as goal

abbrev pub invariant-loop-backend : goal.invariant-loop-backend
invariant-loop-backend l = record {
  many : length l.all.items ≡ l.backend-index;
  unused : AreNew l.backends l.all.items;
  counted : AreCounted l.slots l.backends l.all.items;
  each_named : AllByRecursion (λ picks. AreNamed l.named picks.slots) l.all.items;
  keeps : KeepsPlaces l.fn.slots l.fn.named l.slots l.named;
}
