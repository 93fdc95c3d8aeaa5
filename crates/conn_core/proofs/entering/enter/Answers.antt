use Rattle.std.proofs.Common.{◌≡◌, ap, subst, sym}
use Rattle.std.specs.Prelude.{IfSome, IsSome}
use Rattle.rule_engine.specs.Meaning.{present}
use Rattle.conn_model.specs.Answer.{row_at}
use Rattle.conn_rows.specs.declared.rows.RowsState.{RowsState}
use Rattle.conn_model.specs.Changes.{rest_at}
use Rattle.conn_core.specs.declared.outcome.Outcome.TheVariants.{Offer}
use Rattle.conn_core.specs.Changes.{CanOffer}
use Rattle.conn_core.proofs.EnterLemmas.{newcomer_judged, newcomer_waits, offered_once, removed_once, skipped_once}
use Rattle.conn_core.proofs.entering.enter.Goals as goal

pub offer-requires-clause-waits : goal.offer-requires-clause-waits
offer-requires-clause-waits c =
    subst (λ fs. IsSome (rest_at fs c.args.id)) (sym (ap (λ (s : RowsState). s.frontends) c.in_ok-insert-in-Offer.ensures.ok))
    (newcomer_waits c.args.rows.now.frontends c.args.id c.requires.coming.0 c.args.arrival.now (present c.args.decision.now.tracks) c.requires.coming.1)

pub offer-requires-clause-judged : goal.offer-requires-clause-judged
offer-requires-clause-judged c =
    subst (λ fs. IfSome (row_at fs c.args.id) (λ row. row.version ≡ c.args.arrival.now.version)) (sym (ap (λ (s : RowsState). s.frontends) c.in_ok-insert-in-Offer.ensures.ok))
    (newcomer_judged c.args.rows.now.frontends c.args.id c.requires.coming.0 c.args.arrival.now (present c.args.decision.now.tracks) c.requires.coming.1)

pub offer-requires-clause-server : goal.offer-requires-clause-server
offer-requires-clause-server c =
    subst (λ vs. CanOffer vs c.args.arrival.now.version (Offer c.in-Offer.offer)) (sym (ap (λ (s : RowsState). s.versions) c.in_ok-insert-in-Offer.ensures.ok))
    (subst (λ o. CanOffer c.args.rows.now.versions c.args.arrival.now.version o) c.in-Offer.is c.requires.offers)

pub returns-then-tracks_nothing-clause-ok : goal.returns-then-tracks_nothing-clause-ok
returns-then-tracks_nothing-clause-ok c =
    skipped_once c.args.rows.now c.pass.new.self c.skip.new.self c.args.id c.requires.coming.0 c.args.arrival.now c.args.decision.now c.in-Refuse.field-0 c.requires.coming.1 c.in-Refuse.is
    (c.tracks_nothing.ensures.0 c.if-tracks_nothing.true) c.pass.ensures c.skip.ensures

pub returns-in_ok-insert-in-Offer-clause-ok : goal.returns-in_ok-insert-in-Offer-clause-ok
returns-in_ok-insert-in-Offer-clause-ok c =
    offered_once c.args.rows.now c.insert-in-Offer.new.rows c.offer.new.self c.args.id c.requires.coming.0 c.args.arrival.now c.args.decision.now c.in-Offer.offer c.requires.coming.1 c.in-Offer.is
    c.in_ok-insert-in-Offer.ensures.ok c.offer.ensures

pub returns-in_ok-insert-in-Refuse-clause-ok : goal.returns-in_ok-insert-in-Refuse-clause-ok
returns-in_ok-insert-in-Refuse-clause-ok c =
    removed_once c.args.rows.now c.insert-in-Refuse.new.rows c.remove.new.self c.args.id c.requires.coming.0 c.args.arrival.now c.args.decision.now c.in-Refuse.field-0 c.requires.coming.1 c.in-Refuse.is
    c.in_ok-insert-in-Refuse.ensures.ok c.in_ok-insert-in-Refuse.ensures.clock c.remove.ensures
