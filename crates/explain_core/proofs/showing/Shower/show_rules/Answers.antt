use Rattle.std.proofs.Common.{drop, sym}
use Rattle.std.specs.List.{zip}
use Rattle.conn_model.specs.Rules.{scene_of}
use Rattle.conn_core.specs.Judging.{facts_view}
use Rattle.explain_core.specs.Text.{rule_text}
use Rattle.explain_core.proofs.OnceLemmas.{shown_all, shown_next, zip_done, zip_ended}
use Rattle.explain_core.proofs.showing.Shower.show_rules.Goals as goal

pub returns-in_default : goal.returns-in_default
returns-in_default c =
    shown_all (rule_text c.args.self.now.lines.now c.args.facts.now.version.now.plan.tables (scene_of (facts_view c.args.facts.now))) (zip (drop c.loop-place.place c.args.rules.now) (drop c.loop-place.place c.args.tried.now)) c.loop-place.out.items _
    (zip_ended c.args.rules.now c.args.tried.now c.loop-place.place (sym c.in_default.ensures)) c.loop-place.invariant

pub loop-place-preserved : goal.loop-place-preserved
loop-place-preserved c =
    shown_next (λ tables. rule_text c.args.self.now.lines.now tables (scene_of (facts_view c.args.facts.now))) c.args.facts.now.version.now.plan.tables c.as_slice-tables.result.now c.as_slice-tables.ensures
    c.args.rules.now c.args.tried.now c.loop-place.place c.in-Some.rule.now _ c.loop-place.out.items c.show_rule.new.out.items _ c.loop-place-test.true (sym c.in-Some.ensures) c.in_ok-show_rule.ensures c.loop-place.invariant

pub returns : goal.returns
returns c =
    shown_all (rule_text c.args.self.now.lines.now c.args.facts.now.version.now.plan.tables (scene_of (facts_view c.args.facts.now))) (zip (drop c.loop-place.place c.args.rules.now) (drop c.loop-place.place c.args.tried.now)) c.loop-place.out.items _
    (zip_done c.args.rules.now c.args.tried.now c.loop-place.place c.loop-place-test.false) c.loop-place.invariant
