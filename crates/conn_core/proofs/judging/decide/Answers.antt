use Rattle.std.proofs.Common.{◌≡◌, ap, ◌∙◌}
use Rattle.rule_engine.specs.Judging.{judged_after}
use Rattle.conn_model.specs.Rules.{scene_of}
use Rattle.conn_core.specs.Judging.{facts_view, result_of}
use Rattle.conn_core.proofs.JudgingLemmas.{allowed_then, decided_by}
use Rattle.conn_core.proofs.judging.decide.Goals as goal

pub returns-clause-reply : goal.returns-clause-reply
returns-clause-reply c =
    let says : c.judge_after-says.result ≡ judged_after (scene_of (facts_view c.args.facts.now)) c.args.decision.now.tracks c.args.facts.now.frontend.now.session_rules =
    c.judge_after-says.ensures ∙ ap (judged_after (scene_of (facts_view c.args.facts.now)) c.args.decision.now.tracks) c.as_slice.ensures in
    decided_by (facts_view c.args.facts.now) c.args.facts.now.frontend.now c.args.decision.now.tracks c.args.judged c.judge_after-says.result (result_of c.session_verdict.result) c.outcome-decision.result says
    c.session_verdict.ensures c.outcome-decision.ensures

pub returns-clause-can : goal.returns-clause-can
returns-clause-can c =
    allowed_then c.args.facts.now c.args.decision.now.tracks c.args.facts.now.frontend.now.session_rules c.judge_after-says.result
    (c.judge_after-says.ensures ∙ ap (judged_after (scene_of (facts_view c.args.facts.now)) c.args.decision.now.tracks) c.as_slice.ensures)
