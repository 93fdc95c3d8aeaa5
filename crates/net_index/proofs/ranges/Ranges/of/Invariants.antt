use Rattle.std.proofs.Common.{◌≡◌, ◌<◌, ◌++◌, ◌∷◌, [], ℕ, length, get_or, take}
use Rattle.net_index.specs.Ranges.{covers, AreApart, BeginBefore}
use Rattle.net_index.proofs.ranges.Ranges.of.Given as goal

abbrev pub invariant-loop-range : goal.invariant-loop-range
invariant-loop-range l = record {
  apart : AreApart (l.items.items ++ l.last ∷ []);
  rises : l.range-index < length l.rest → BeginBefore (get_or l.rest l.range-index (record { first = 0; last = 0 })).first (l.items.items ++ l.last ∷ []);
  covers : (n : ℕ) → covers (l.items.items ++ l.last ∷ []) n ≡ covers (l.initial.last ∷ take l.range-index l.rest) n;
}
