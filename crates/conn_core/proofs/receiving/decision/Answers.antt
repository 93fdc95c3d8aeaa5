use Rattle.std.proofs.Common.{◌≡◌, List, [], ap, sym, subst, refl, ◌∙◌}
use Rattle.addr_core.specs.declared.addr.Addr.{Addr}
use Rattle.plan_types.specs.declared.track.Track.{Track}
use Rattle.rule_engine.specs.Meaning.{present}
use Rattle.rule_engine.specs.Judging.{no_tracks}
use Rattle.rule_engine.proofs.SlotLemmas.{none_made}
use Rattle.conn_model.specs.declared.plain.Plain.{Plain}
use Rattle.conn_model.specs.declared.reply.Reply.{Reply}
use Rattle.conn_model.specs.Answer.{candidate_of, decision}
use Rattle.conn_model.specs.Counts.{served_by}
use Rattle.conn_model.specs.Rules.{view_of}
use Rattle.conn_model.proofs.Offers.{decision-offers, OffersWell}
use Rattle.conn_core.specs.Outcome.{reply_by}
use Rattle.conn_model.specs.Tables.{open_tracks, tracks_at}
use Rattle.conn_core.specs.Counts.{IsSeen}
use Rattle.conn_core.specs.Judging.{decided, rows_at}
use Rattle.conn_core.specs.Tracking.{ArePossible, IsPossible}
use Rattle.conn_core.proofs.JudgingLemmas.{can_offer, own_number}
use Rattle.conn_core.proofs.SeenLemmas.{rows_now}
use Rattle.conn_core.proofs.receiving.decision.Goals as goal
use Rattle.conn_model.specs.Servers.{is_down}

pub decide-requires : goal.decide-requires
decide-requires c =
    let sees = c.in-Some.ensures.some in
    rw sees.rows_are
    (rw sees.version_is
    (own_number c.args.rows.now.versions c.args.version sees.judge.version sees.judge.kept))

pub returns-clause-some : goal.returns-clause-some
returns-clause-some c =
    let sees = c.in-Some.ensures.some in (
      sees.judge,
      λ state used same.
          c.decide.ensures.reply c.args.id used
          ∙ ap (λ views. decided views c.in-Some.facts.frontend.now c.args.id used c.args.judged no_tracks) (sees.view state (subst (IsSeen c.args.id state) (sym (rows_now c.clock.result c.args.rows.now c.clock.ensures.value c.clock.ensures.alive)) same))
          ∙ ap (λ frontend. decided (view_of (candidate_of state c.args.id sees.judge.version sees.judge.frontend) c.args.judged.source.addr) frontend c.args.id used c.args.judged no_tracks) sees.frontend_is,
    )

pub returns-clause-can : goal.returns-clause-can
returns-clause-can c = λ there.
    let sees = c.in-Some.ensures.some in
    let facts = c.in-Some.facts in
    let none = c.decide.ensures.can (none_made (IsPossible (open_tracks facts.rows.now.frontends) (rows_at facts.moment facts.rows.now).tables (present facts.own) facts.source)) in
    let rows : rows_at facts.moment facts.rows.now ≡ c.args.rows.now =
    ap (rows_at facts.moment) sees.rows_are ∙ ap (λ n. rows_at n c.args.rows.now) sees.moment_is ∙ rows_now c.clock.result c.args.rows.now c.clock.ensures.value c.clock.ensures.alive in
    subst (λ (addr : Addr). ArePossible (open_tracks c.args.rows.now.frontends) c.args.rows.now.tables (tracks_at c.args.rows.now.frontends c.args.id) addr c.decide.new.decision.tracks) sees.source
    (subst (λ (tracks : List Track). ArePossible (open_tracks c.args.rows.now.frontends) c.args.rows.now.tables tracks facts.source c.decide.new.decision.tracks) sees.tracks
    (subst (λ rows. ArePossible (open_tracks rows.frontends) rows.tables (present facts.own) facts.source c.decide.new.decision.tracks) rows none))

pub returns-clause-offers : goal.returns-clause-offers
returns-clause-offers c =
    let p : Plain = record { clock = 0; listeners = []; frontends = c.args.rows.now.frontends; versions = c.args.rows.now.versions; tables = c.args.rows.now.tables; down = c.args.rows.now.down } in
    let some = returns-clause-some c in
    let reply : reply_by c.args.id 0 c.decide.new.decision ≡ decision (candidate_of p c.args.id some.0.version some.0.frontend) 0 c.args.judged no_tracks =
    some.1 p 0 (record { own = refl; named = λ name. refl; offered = λ name. refl; served = λ server. refl; tracks = refl; tracked = refl; tables = refl; down = refl }) in
    can_offer (served_by c.args.rows.now.frontends) (is_down c.args.rows.now.down) c.args.rows.now.versions c.args.version some.0.version c.args.id 0 c.decide.new.decision.outcome c.requires some.0.kept
    (subst (λ (r : Reply). OffersWell (served_by c.args.rows.now.frontends) (is_down c.args.rows.now.down) some.0.version.plan r.said) (sym reply)
    (decision-offers (candidate_of p c.args.id some.0.version some.0.frontend) 0 c.args.judged no_tracks))
