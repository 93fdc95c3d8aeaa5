use Rattle.std.proofs.Common.{[], ap, sym, subst, refl, ◌∙◌}
use Rattle.rule_engine.specs.Judging.{no_tracks}
use Rattle.rule_engine.specs.Meaning.{present}
use Rattle.conn_model.specs.Answer.{candidate_of, decision, verdict}
use Rattle.conn_model.specs.Rules.{view_of}
use Rattle.conn_model.specs.declared.plain.Plain.{Plain}
use Rattle.conn_model.specs.declared.reply.Reply.{Reply}
use Rattle.conn_core.specs.Changes.{CanOffer, IsJudged}
use Rattle.conn_core.specs.Tracking.{row_with}
use Rattle.conn_core.proofs.PieceLemmas.{judge_same, judged_open, settled_once, still_judged}
use Rattle.conn_core.proofs.receiving.decide.Goals as goal

pub track_all-requires-clause-there : goal.track_all-requires-clause-there
track_all-requires-clause-there c = judged_open c.args.rows.now.frontends c.args.id c.args.version c.requires.there

pub track_all-requires-clause-can : goal.track_all-requires-clause-can
track_all-requires-clause-can c = (c.args.judged.source.addr, c.in-Some.ensures.can (judged_open c.args.rows.now.frontends c.args.id c.args.version c.requires.there))

pub settle-requires-clause-there : goal.settle-requires-clause-there
settle-requires-clause-there c =
    subst (λ fs. IsJudged fs c.args.id c.args.version) (sym c.track_all.ensures.frontends)
    (still_judged c.args.id (row_with (present c.in-Some.decision.tracks)) c.args.rows.now.frontends c.args.version (λ row. refl) (λ row. refl) (λ row waits. waits) c.requires.there)

pub settle-requires-clause-offers : goal.settle-requires-clause-offers
settle-requires-clause-offers c =
    subst (λ vs. CanOffer vs c.args.version c.in-Some.decision.outcome) (sym c.track_all.ensures.versions) c.in-Some.ensures.offers

pub returns-clause-reply : goal.returns-clause-reply
returns-clause-reply c = λ judge state same.
    let some = c.in-Some.ensures.some in
    let alike = judge_same c.args.rows.now.frontends c.args.rows.now.versions c.args.id c.args.version some.0 judge in
    c.reply.ensures ∙ some.1 state c.args.used same
    ∙ ap (λ v. decision (candidate_of state c.args.id v some.0.frontend) c.args.used c.args.judged no_tracks) alike.0
    ∙ ap (λ f. decision (candidate_of state c.args.id judge.version f) c.args.used c.args.judged no_tracks) alike.1

pub returns-clause-new : goal.returns-clause-new
returns-clause-new c = λ bytes.
    let some = c.in-Some.ensures.some in
    let p : Plain = record { clock = 0; listeners = []; frontends = c.args.rows.now.frontends; versions = c.args.rows.now.versions; tables = c.args.rows.now.tables; down = c.args.rows.now.down } in
    let decided = verdict (view_of (candidate_of p c.args.id some.0.version some.0.frontend) c.args.judged.source.addr) some.0.frontend no_tracks in
    let reply = some.1 p c.args.used (record { own = refl; named = λ name. refl; offered = λ name. refl; served = λ server. refl; tracks = refl; tracked = refl; tables = refl; down = refl }) in
    settled_once c.args.rows.now c.track_all.new.rows c.settle.new.rows bytes c.args.id c.args.version c.args.used c.args.judged decided.result c.in-Some.decision c.reply.result
    (judged_open c.args.rows.now.frontends c.args.id c.args.version c.requires.there)
    (ap (λ (r : Reply). r.said) reply) c.track_all.ensures.frontends c.track_all.ensures.versions c.track_all.ensures.clock c.track_all.ensures.tables c.track_all.ensures.down c.settle.ensures c.reply.ensures
