use Rattle.std.proofs.Common.{◌≡◌, ◌++◌, drop}
use Rattle.explain_core.specs.Tried.{tried}
use Rattle.explain_core.proofs.tried.try_rules.Given as goal

abbrev pub invariant-loop-rule : goal.invariant-loop-rule
invariant-loop-rule g l = l.list.items ++ tried (g.S.Scene.meaning l.scene) l.tracks (drop l.rule-index l.rules) ≡ tried (g.S.Scene.meaning l.scene) l.fn.earlier l.rules
