use Rattle.std.proofs.Common.{◌≡◌, drop}
use Rattle.rule_engine.specs.Judging.{judged_after}
use Rattle.rule_engine.proofs.JudgingLemmas.{also_expecting}
use Rattle.rule_engine.proofs.judging.judge_after.Given as goal

abbrev pub invariant-loop-rule : goal.invariant-loop-rule
invariant-loop-rule g l =
    also_expecting l.expects_header (judged_after (g.S.Scene.meaning l.scene) l.tracks (drop l.rule-index l.rules))
    ≡ judged_after (g.S.Scene.meaning l.scene) l.fn.earlier l.rules
