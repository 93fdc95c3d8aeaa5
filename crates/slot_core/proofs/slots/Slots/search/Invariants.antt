use Rattle.std.proofs.Common.{◌≡◌, ◌<◌, ℕ, false, Some}
use Rattle.std.specs.Prelude.{slice_get}
use Rattle.slot_core.specs.declared.slots.Count.{Count}
use Rattle.slot_core.specs.Counts.{is_of}
use Rattle.slot_core.proofs.slots.Slots.search.Given as goal

-- no place before is of the server
abbrev pub invariant-loop-place : goal.invariant-loop-place
invariant-loop-place l = (n : ℕ) (count : Count) → n < l.place → slice_get l.self n ≡ Some count → is_of l.identity count ≡ false
