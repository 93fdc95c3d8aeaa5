use Rattle.std.proofs.Common.{◌≡◌, ◌≤◌, ◌+◌, ◌++◌, ℕ, List, Option, Box, Global, length, vec_len, vec_capacity}
use Rattle.std.specs.Vec.Iter.{into_iter_items, into_iter_len}
use Rattle.keyed_list.specs.Boxes.{entries_in, opened_by}
use Rattle.keyed_list.specs.Entries.{Rise}
use Rattle.keyed_list.proofs.places.move_items.Given as goal

abbrev pub invariant-loop-key : goal.invariant-loop-key
invariant-loop-key g l =
    (entries_in (opened_by (λ own. own.value) (l.to.items ++ into_iter_items l.rest)) ≡ entries_in (opened_by (λ own. own.value) (l.fn.to.items ++ into_iter_items l.fn.rest)))
    × ((far : List (ℕ × Option (Box g.row.T.Denot Global))) → Rise (λ p. p.0) (far ++ (l.fn.to.items ++ into_iter_items l.fn.rest)) → Rise (λ p. p.0) (far ++ (l.to.items ++ into_iter_items l.rest)))
    × (vec_len l.to + length (entries_in (opened_by (λ own. own.value) (into_iter_items l.rest))) ≤ vec_capacity l.to)

abbrev pub decreases-loop-key : goal.decreases-loop-key
decreases-loop-key g l = into_iter_len l.rest
