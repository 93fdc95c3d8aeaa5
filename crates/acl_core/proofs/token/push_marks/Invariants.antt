use Rattle.std.proofs.Common.{◌≡◌, ◌++◌, length}
use Rattle.acl_core.specs.Tokens.{marks, bare}
use Rattle.acl_core.proofs.token.push_marks.Given as goal

abbrev pub invariant-loop-rest : goal.invariant-loop-rest
invariant-loop-rest l = record {
  tokens : l.tokens ++ marks l.rest ≡ l.initial.tokens ++ marks l.word;
  bare : bare l.rest ≡ bare l.word;
}

abbrev pub decreases-loop-rest : goal.decreases-loop-rest
decreases-loop-rest l = length l.rest
