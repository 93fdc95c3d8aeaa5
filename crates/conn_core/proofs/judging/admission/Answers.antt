use Rattle.std.proofs.Common.{◌≡◌, None, ap, sym, ◌∙◌}
use Rattle.std.specs.Prelude.{◌||◌}
use Rattle.rule_engine.specs.Judging.{judged}
use Rattle.conn_model.specs.Answer.{admission, candidate_of, entry_reply, reply_with}
use Rattle.conn_model.specs.Rules.{rejection, scene_of}
use Rattle.conn_core.specs.Judging.{decided, facts_view}
use Rattle.conn_core.specs.Outcome.{said_by}
use Rattle.conn_core.proofs.JudgingLemmas.{admission_by, allowed_first}
use Rattle.conn_core.proofs.judging.admission.Goals as goal
use Rattle.conn_core.proofs.judging.admission.Goals.{in-Some, in-None+else-not-demands_header}

pub returns-then-not-demands_header-clause-can : goal.returns-then-not-demands_header-clause-can
returns-then-not-demands_header-clause-can c =
    c.decide.ensures.can (allowed_first c.args.facts.now c.args.facts.now.frontend.now.connection_rules c.judge-says.result (c.judge-says.ensures ∙ ap (judged (scene_of (facts_view c.args.facts.now))) c.as_slice.ensures))

pub returns-clause-can : goal.returns-clause-can
returns-clause-can c = allowed_first c.args.facts.now c.args.facts.now.frontend.now.connection_rules c.judge-says.result (c.judge-says.ensures ∙ ap (judged (scene_of (facts_view c.args.facts.now))) c.as_slice.ensures)

pub returns-then-not-demands_header-clause-reply : goal.returns-then-not-demands_header-clause-reply
returns-then-not-demands_header-clause-reply c = λ state id same.
    let candidate = candidate_of state id c.args.facts.now.version.now c.args.facts.now.frontend.now in
    c.decide.ensures.reply id 0
    ∙ ap (λ views. decided views c.args.facts.now.frontend.now id 0 c.args.real c.judge-says.result.tracks) (sym same)
    ∙ sym (admission_by candidate c.args.accept_proxy c.args.real c.args.others (facts_view c.args.facts.now) c.judge-says.result c.if-others-facts.false same
    (c.judge-says.ensures ∙ ap (judged (scene_of (facts_view c.args.facts.now))) c.as_slice.ensures)
    ∙ ap (entry_reply candidate (c.args.accept_proxy || c.judge-says.result.expects_header) c.args.real c.judge-says.result.tracks) (sym c.rejecting_line.ensures ∙ c.in-None.is)
    ∙ ap (λ demanded. entry_reply candidate demanded c.args.real c.judge-says.result.tracks None) (sym c.demands_header.ensures ∙ c.if-not-demands_header.true))

pub returns-clause-reply : goal.returns-clause-reply
returns-clause-reply c = λ state id same.
    let candidate = candidate_of state id c.args.facts.now.version.now c.args.facts.now.frontend.now in
    let admitted : admission candidate c.args.accept_proxy c.args.real c.args.others ≡ entry_reply candidate (c.args.accept_proxy || c.judge-says.result.expects_header) c.args.real c.judge-says.result.tracks (rejection c.judge-says.result) =
    admission_by candidate c.args.accept_proxy c.args.real c.args.others (facts_view c.args.facts.now) c.judge-says.result c.if-others-facts.false same
    (c.judge-says.ensures ∙ ap (judged (scene_of (facts_view c.args.facts.now))) c.as_slice.ensures) in
    elim c.match-rejecting_line.branch [
      | in-Some w ↦
          ap (λ o. reply_with (said_by id 0 o) c.judge-says.result.tracks) w.outcome-is
          ∙ sym (admitted ∙ ap (entry_reply candidate (c.args.accept_proxy || c.judge-says.result.expects_header) c.args.real c.judge-says.result.tracks) (sym c.rejecting_line.ensures ∙ w.in-Some.is))
      | in-None+else-not-demands_header w ↦
          ap (λ o. reply_with (said_by id 0 o) c.judge-says.result.tracks) w.outcome-is
          ∙ sym (admitted ∙ ap (entry_reply candidate (c.args.accept_proxy || c.judge-says.result.expects_header) c.args.real c.judge-says.result.tracks) (sym c.rejecting_line.ensures ∙ w.in-None.is)
          ∙ ap (λ demanded. entry_reply candidate demanded c.args.real c.judge-says.result.tracks None) (sym w.demands_header.ensures ∙ w.if-not-demands_header.false))
    ]
