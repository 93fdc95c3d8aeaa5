use Rattle.std.proofs.Common.{◌≡◌, ◌++◌, drop}
use Rattle.explain_core.specs.Text.{words_text}
use Rattle.explain_core.proofs.quotes.write_words.Given as goal

abbrev pub invariant-loop-word : goal.invariant-loop-word
invariant-loop-word l = l.out.items ++ words_text (drop l.word-index l.words) ≡ l.initial.out.items ++ words_text l.words
