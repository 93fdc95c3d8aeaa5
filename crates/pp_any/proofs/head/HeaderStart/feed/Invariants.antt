use Rattle.std.proofs.Common.{◌≡◌, ◌++◌, take}
use Rattle.pp_any.specs.Rest.{IsInHead}
use Rattle.pp_any.proofs.head.HeaderStart.feed.Given as goal

abbrev pub invariant-loop-at : goal.invariant-loop-at
invariant-loop-at l = record {
  bytes_of : l.bytes.items ≡ l.initial.bytes.items ++ take l.at l.piece;
  inside : IsInHead l.bytes.items;
}
