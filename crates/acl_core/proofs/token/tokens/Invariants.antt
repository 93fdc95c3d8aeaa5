use Rattle.std.proofs.Common.{◌≡◌, ◌++◌, drop}
use Rattle.acl_core.specs.Tokens.{tokens_after, tokens_of}
use Rattle.acl_core.proofs.token.tokens.Given as goal

abbrev pub invariant-loop-word : goal.invariant-loop-word
invariant-loop-word l = l.tokens ++ tokens_after l.open (drop l.word-index l.words) ≡ tokens_of l.words
