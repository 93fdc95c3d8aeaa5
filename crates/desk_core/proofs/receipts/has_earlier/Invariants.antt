use Rattle.std.proofs.Common.{◌≡◌, ◌<◌, ℕ, Some, List}
use Rattle.std.specs.Prelude.{slice_get}
use Rattle.record_core.specs.declared.record.Record.{Record}
use Rattle.desk_core.specs.Calls.{kept_of}
use Rattle.desk_core.specs.Receipts.{HasNumber}
use Rattle.desk_core.proofs.receipts.has_earlier.Given as goal

abbrev pub invariant-loop-pass : goal.invariant-loop-pass
invariant-loop-pass g l = (k : ℕ) (p : List Record) → k < l.pass-index → slice_get (kept_of l.before) k ≡ Some p → HasNumber p l.number → ⊥
