use Rattle.std.proofs.Common.{◌≡◌, ◌++◌, drop}
use Rattle.explain_core.specs.Text.{rules_text}
use Rattle.explain_core.proofs.showing.Shower.show_rules.Given as goal

abbrev pub invariant-loop-place : goal.invariant-loop-place
invariant-loop-place l = l.out.items ++ rules_text l.self.lines.now l.facts (drop l.place l.rules) (drop l.place l.tried) ≡ l.initial.out.items ++ rules_text l.self.lines.now l.facts l.rules l.tried
