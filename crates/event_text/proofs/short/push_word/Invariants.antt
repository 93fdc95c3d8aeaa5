use Rattle.std.proofs.Common.{◌≡◌, ◌+◌, ◌++◌, drop, length}
use Rattle.event_text.proofs.short.push_word.Given as goal

abbrev pub invariant-loop-byte : goal.invariant-loop-byte
invariant-loop-byte g l = record {
  written : l.text.items ++ drop l.byte-index l.word ≡ l.initial.text.items ++ l.word;
  long : length l.text.items ≡ length l.initial.text.items + l.byte-index;
}
