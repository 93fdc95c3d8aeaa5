use Rattle.std.proofs.Common.{◌≡◌, ◌+◌, ◌≤◌, ◌++◌, length, vec_len, vec_capacity}
use Rattle.std.specs.Vec.Iter.{into_iter_items}
use Rattle.keyed_list.specs.Boxes.{entries_in, opened_by, settled}
use Rattle.keyed_list.specs.Entries.{Rise}
use Rattle.keyed_list.proofs.places.settle_first.Given as goal

abbrev pub invariant-loop-place : goal.invariant-loop-place
invariant-loop-place g l =
    (entries_in (opened_by (λ own. own.value) (settled l.tree.entries ++ into_iter_items l.rest)) ≡ entries_in (opened_by (λ own. own.value) (settled l.fn.tree.entries ++ into_iter_items l.fn.rest)))
    × Rise (λ p. p.0) (settled l.tree.entries ++ into_iter_items l.rest)
    × (l.moved + length (entries_in (opened_by (λ own. own.value) (into_iter_items l.rest))) ≡ length (entries_in (opened_by (λ own. own.value) (into_iter_items l.fn.rest))))
    × (l.moved ≤ l._place)
    × (vec_len l.to ≡ 0)
    × (vec_capacity l.to ≡ vec_capacity l.fn.to)
