use Rattle.std.proofs.Common.{◌≡◌, ◌++◌, drop}
use Rattle.std.specs.List.{flat_map, zip}
use Rattle.rule_engine.specs.Meaning.{present}
use Rattle.conn_core.specs.Judging.{facts_view}
use Rattle.explain_core.specs.Text.{choice_text}
use Rattle.explain_core.proofs.showing.Shower.show_choices.Given as goal

abbrev pub invariant-loop-place : goal.invariant-loop-place
invariant-loop-place l =
    l.out.items ++ flat_map (choice_text l.self.lines.now (facts_view l.facts (present l.tracks))) (zip (drop l.place l.choices) (drop l.place l.tried))
    ≡ l.initial.out.items ++ flat_map (choice_text l.self.lines.now (facts_view l.facts (present l.tracks))) (zip l.choices l.tried)
