use Rattle.std.proofs.Common.{◌≡◌, ℕ, ◌<◌, Some, true, length}
use Rattle.std.specs.Prelude.{slice_get}
use Rattle.slot_core.specs.Counts.{named_at}
use Rattle.slot_core.specs.declared.slots.SlotIx.{SlotIx}
use Rattle.conn_versions.proofs.picks.note_places.Given as goal

abbrev pub invariant-loop-ix : goal.invariant-loop-ix
invariant-loop-ix l = record {
  many : length l.named ≡ length l.fn.named;
  noted : (n : ℕ) (ix : SlotIx) → n < l.ix-index → slice_get l.places n ≡ Some ix → ix.place < length l.named → named_at ix.place l.named ≡ true;
  still_named : (place : ℕ) → named_at place l.fn.named ≡ true → named_at place l.named ≡ true;
}
