use Rattle.std.proofs.Common.{◌++◌, List, drop, refl, ap, sym, ◌∙◌}
use Rattle.std.specs.List.{flat_map, zip}
use Rattle.plan_types.specs.declared.plan.Choice.{Choice}
use Rattle.rule_engine.specs.Meaning.{present}
use Rattle.conn_core.specs.Judging.{facts_view}
use Rattle.explain_core.specs.Text.{choice_text}
use Rattle.explain_core.proofs.OnceLemmas.{shown_all, shown_next, zip_done, zip_ended}
use Rattle.explain_core.proofs.showing.Shower.show_choices.Goals as goal

pub returns-in_default : goal.returns-in_default
returns-in_default c =
    let f = choice_text c.args.self.now.lines.now (facts_view c.args.facts.now (present c.args.tracks.now)) in
    shown_all f (zip (drop c.loop-place.place c.as_slice-choices.result.now) (drop c.loop-place.place c.args.tried.now)) c.loop-place.out.items _
    (zip_ended c.as_slice-choices.result.now c.args.tried.now c.loop-place.place (sym c.in_default.ensures)) c.loop-place.invariant
    ∙ ap (λ (choices : List Choice). c.args.out.now.items ++ flat_map f (zip choices c.args.tried.now)) c.as_slice-choices.ensures

pub loop-place-preserved : goal.loop-place-preserved
loop-place-preserved c =
    shown_next (λ (u : Unit {0}). choice_text c.args.self.now.lines.now (facts_view c.args.facts.now (present c.args.tracks.now))) tt tt refl
    c.as_slice-choices.result.now c.args.tried.now c.loop-place.place c.in-Some.choice.now _ c.loop-place.out.items c.show_choice.new.out.items _ c.loop-place-test.true (sym c.in-Some.ensures) c.in_ok-show_choice.ensures c.loop-place.invariant

pub returns : goal.returns
returns c =
    let f = choice_text c.args.self.now.lines.now (facts_view c.args.facts.now (present c.args.tracks.now)) in
    shown_all f (zip (drop c.loop-place.place c.as_slice-choices.result.now) (drop c.loop-place.place c.args.tried.now)) c.loop-place.out.items _
    (zip_done c.as_slice-choices.result.now c.args.tried.now c.loop-place.place c.loop-place-test.false) c.loop-place.invariant
    ∙ ap (λ (choices : List Choice). c.args.out.now.items ++ flat_map f (zip choices c.args.tried.now)) c.as_slice-choices.ensures
