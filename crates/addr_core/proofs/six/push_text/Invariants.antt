use Rattle.std.proofs.Common.{◌≡◌, ◌++◌, length}
use Rattle.std.specs.Prelude.{Ok}
use Rattle.std.specs.List.{slice_split}
use Rattle.list_core.specs.Each.{◌>>=◌}
use Rattle.addr_core.specs.Dotted.{is_colon}
use Rattle.addr_core.specs.Six.{groups_in, HasRoom}
use Rattle.addr_core.proofs.six.push_text.Given as goal

abbrev pub invariant-loop-word : goal.invariant-loop-word
invariant-loop-word l =
    HasRoom (length l.groups.items) (slice_split is_colon l.rest)
    × ((groups_in (slice_split is_colon l.text) >>= λ groups. Ok (l.fn.groups.items ++ groups)) ≡ (groups_in (slice_split is_colon l.rest) >>= λ groups. Ok (l.groups.items ++ groups)))

abbrev pub decreases-loop-word : goal.decreases-loop-word
decreases-loop-word l = length l.rest
