use Rattle.std.proofs.Common.{◌≡◌, ◌+◌, ◌≤◌, length}
use Rattle.std.specs.List.{slice_split}
use Rattle.std.specs.Option.{option_map}
use Rattle.addr_core.specs.Dotted.{is_colon}
use Rattle.addr_core.specs.Six.{group_count}
use Rattle.addr_core.proofs.six.count.Given as goal

abbrev pub invariant-loop-word : goal.invariant-loop-word
invariant-loop-word l =
    (group_count l.may_be_dotted (slice_split is_colon l.text) ≡ option_map (λ count. count + l.count) (group_count l.may_be_dotted (slice_split is_colon l.rest)))
    × (l.count + length l.rest ≤ length l.text)

abbrev pub decreases-loop-word : goal.decreases-loop-word
decreases-loop-word l = length l.rest
