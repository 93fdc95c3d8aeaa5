use Rattle.std.proofs.Common.{◌≡◌, ℕ, ◌<◌, Some, true, length}
use Rattle.std.specs.Prelude.{slice_get}
use Rattle.slot_core.specs.Counts.{named_at}
use Rattle.conn_versions.specs.declared.picks.BackendPicks.{BackendPicks}
use Rattle.conn_versions.specs.Slots.{AreNoted}
use Rattle.conn_versions.proofs.versions.note_all.Given as goal

abbrev pub invariant-loop-picks : goal.invariant-loop-picks
invariant-loop-picks l = record {
  many : length l.named ≡ length l.fn.named;
  noted : (n : ℕ) (picks : BackendPicks) → n < l.picks-index → slice_get l.own n ≡ Some picks → AreNoted l.named picks.slots;
  still_named : (place : ℕ) → named_at place l.fn.named ≡ true → named_at place l.named ≡ true;
}
