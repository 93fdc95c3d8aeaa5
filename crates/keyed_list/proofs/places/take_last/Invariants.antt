use Rattle.std.proofs.Common.{◌≡◌, ◌≤◌, ◌++◌, ℕ, List, Option, Box, Global, vec_len, vec_capacity}
use Rattle.keyed_list.specs.Boxes.{entries_in, opened_by}
use Rattle.keyed_list.specs.Entries.{Rise}
use Rattle.keyed_list.proofs.places.take_last.Given as goal

abbrev pub invariant-loop-key : goal.invariant-loop-key
invariant-loop-key g l =
    (entries_in (opened_by (λ own. own.value) l.fn.places.items) ≡ entries_in (opened_by (λ own. own.value) l.places.items))
    × ((far : List (ℕ × Option (Box g.row.T.Denot Global))) → Rise (λ p. p.0) (far ++ l.fn.places.items) → Rise (λ p. p.0) (far ++ l.places.items))
    × (vec_len l.places ≤ vec_capacity l.places)

abbrev pub decreases-loop-key : goal.decreases-loop-key
decreases-loop-key g l = vec_len l.places
