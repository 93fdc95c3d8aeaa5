use Rattle.std.proofs.Common.{◌≡◌, ◌==◌, length}
use Rattle.std.specs.List.{slice_split}
use Rattle.list_core.specs.Each.{run}
use Rattle.conf_line.specs.Tables.{no_stores, stores_with}
use Rattle.conf_line.proofs.table.stores_of.Given as goal

abbrev pub invariant-loop-kind : goal.invariant-loop-kind
invariant-loop-kind l = run stores_with l.stores (slice_split (λ byte. byte == 44) l.rest) ≡ run stores_with no_stores (slice_split (λ byte. byte == 44) l.word)

abbrev pub decreases-loop-kind : goal.decreases-loop-kind
decreases-loop-kind l = length l.rest
