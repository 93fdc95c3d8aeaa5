use Rattle.std.proofs.Common.{◌≡◌, ◌<◌, ℕ, false, drop, nat_eq}
use Rattle.std.specs.List.{starts_with}
use Rattle.text_core.proofs.parts.cut.Given as goal

abbrev pub invariant-loop-at : goal.invariant-loop-at
invariant-loop-at l = (k : ℕ) → k < l.at → starts_with nat_eq (drop k l.text) l.mark ≡ false
