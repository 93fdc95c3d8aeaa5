use Rattle.std.proofs.Common.{◌≡◌, length}
use Rattle.std.specs.Slice.Iter.{iter_rest}
use Rattle.keyed_list.specs.Boxes.{entries_in, opened_by}
use Rattle.keyed_list.proofs.iter.next_item.Given as goal

abbrev pub invariant-loop-key : goal.invariant-loop-key
invariant-loop-key g l = entries_in (opened_by (λ own. own.value) (iter_rest l.places)) ≡ entries_in (opened_by (λ own. own.value) (iter_rest l.fn.places))

abbrev pub decreases-loop-key : goal.decreases-loop-key
decreases-loop-key g l = length (iter_rest l.places)
