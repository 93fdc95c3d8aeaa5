use Rattle.std.proofs.Common.{ap, ◌∙◌}
use Rattle.rule_engine.specs.Judging.{judged_after}
use Rattle.rule_engine.specs.declared.judging.Judged.{Judged}
use Rattle.conn_model.specs.Rules.{rejection, scene_of}
use Rattle.conn_core.specs.Judging.{facts_view}
use Rattle.explain_core.specs.Explained.{choices_unless}
use Rattle.explain_core.specs.Tried.{tried}
use Rattle.explain_core.proofs.explaining.try_session.Goals as goal

pub returns : goal.returns
returns c =
    let says = c.judge_after-says.ensures ∙ ap (judged_after (scene_of (facts_view c.args.facts.now)) c.args.earlier) c.as_slice-rules.ensures in
    record {
      session = c.in_ok-session.ensures ∙ ap (tried (scene_of (facts_view c.args.facts.now)) c.args.earlier) c.as_slice-rules.ensures;
      says = says;
      choices = c.in_ok-choices.ensures ∙ ap (λ (s : Judged). choices_unless (rejection s) c.args.facts.now s.tracks) says;
    }
