use Rattle.std.proofs.Common.{◌≡◌, ◌∙◌, ℕ, [], ◌∷◌, Ok, max, ap, sym, subst, arith}
use Rattle.conn_model.specs.declared.event.OwnedEvent.TheVariants.{Accept}
use Rattle.conn_model.specs.declared.plain.FrontendRows.{FrontendRows}
use Rattle.conn_model.specs.declared.plain.Plain.{Plain}
use Rattle.conn_model.specs.declared.reply.Reply.{Reply}
use Rattle.conn_model.specs.Answer.{answer_in}
use Rattle.conn_model.specs.Tables.{open_tracks, tables_alive}
use Rattle.conn_core.specs.Tracking.{ArePossible}
use Rattle.conn_model.specs.History.{after, entry, tables_passed}
use Rattle.conn_rows.specs.declared.rows.RowsState.{RowsState}
use Rattle.conn_core.specs.declared.entering.SessionStart.{SessionStart}
use Rattle.conn_core.specs.declared.outcome.TrackedOutcome.{TrackedOutcome}
use Rattle.conn_model.specs.Changes.{with_item}
use Rattle.conn_core.specs.Changes.{entered, settled_versions, CanOffer}
use Rattle.conn_core.specs.Machine.{state_of, IsNext}
use Rattle.conn_core.specs.Outcome.{reply_by}
use Rattle.conn_core.proofs.AcceptLemmas.{accepted}
use Rattle.conn_core.proofs.StateLemmas.{IsAfter}
use Rattle.conn_core.proofs.machine.Core.accept.Goals as goal

pub enter-requires-clause-later : goal.enter-requires-clause-later
enter-requires-clause-later c =
    let same = ap (λ s. s.clock) c.self.view_is in
    let old = c.clock.ensures.value in
    let now = c.max-now.ensures in
    omega (arith, same, old, now)

pub enter-requires-clause-can : goal.enter-requires-clause-can
enter-requires-clause-can c =
    let possible : ℕ → Plain → Type 0 = λ n p. ArePossible (open_tracks p.frontends) (tables_alive n (open_tracks p.frontends) p.tables) [] c.args.real.source.addr c.admit.new.decision.tracks in
    let now : c.max-now.result ≡ max c.args.self.now.clock c.args.moment = c.max-now.ensures ∙ ap (λ n. max n c.args.moment) c.clock.ensures.value in (
      c.args.real.source.addr,
      subst (possible c.max-now.result) (sym c.self.view_is) (subst (λ n. possible n c.args.self.now) (sym now) c.in_ok-id.ensures.can),
    )

pub enter-requires-clause-offers : goal.enter-requires-clause-offers
enter-requires-clause-offers c = subst (λ p. CanOffer p.versions c.in_ok-id.field-0.version c.admit.new.decision.outcome) (sym c.self.view_is) c.in_ok-id.ensures.offers

state : (c : goal.After-reply) → Plain
state c = state_of c.self.inside.listeners c.self.inside.rows

reply : (c : goal.After-reply) → Reply
reply c = reply_by c.in_ok-id.field-0.id 0 c.admit.new.decision

after_is : (c : goal.After-reply) → IsAfter (state c) (entry c.args.moment (Accept c.args.listener c.args.real) (reply c)) (state_of c.self.inside.listeners c.enter.new.rows)
unfolding state reply
after_is c =
    let arrival : SessionStart = record { version = c.in_ok-id.field-0.version; real = c.args.real; accepted = c.max-now.result } in
    let decision : TrackedOutcome = c.admit.new.decision in
    let own : FrontendRows = c.in_ok-id.ensures.next.0 in
    let next : IsNext (state c) c.in_ok-id.field-0 own = subst (λ s. IsNext s c.in_ok-id.field-0 own) (sym c.self.view_is) c.in_ok-id.ensures.next.1 in
    let now : c.max-now.result ≡ max c.self.inside.rows.clock c.args.moment =
    c.max-now.ensures ∙ ap (λ n. max n c.args.moment) (c.clock.ensures.value ∙ ap (λ s. s.clock) (sym c.self.view_is)) in
    let is : answer_in (state c) c.args.moment (Accept c.args.listener c.args.real) ≡ Ok (reply c) =
    ap (λ s. answer_in s c.args.moment (Accept c.args.listener c.args.real)) c.self.view_is ∙ c.in_ok-id.ensures.reply in
    let left : ℕ → ℕ → Plain = λ clock passed. record {
      clock = clock;
      listeners = c.self.inside.listeners;
      frontends = with_item c.in_ok-id.field-0.id.frontend (entered c.self.inside.rows.versions arrival decision) c.self.inside.rows.frontends;
      versions = settled_versions c.in_ok-id.field-0.version decision.outcome c.self.inside.rows.versions;
      tables = tables_passed passed c.self.inside.rows.frontends c.self.inside.rows.tables (reply c);
      down = c.self.inside.rows.down;
    } in
    let enters : state_of c.self.inside.listeners c.enter.new.rows ≡ left c.max-now.result c.max-now.result =
    ap (λ (s : RowsState). record { clock = c.enter.new.rows.clock; listeners = c.self.inside.listeners; frontends = s.frontends; versions = s.versions; tables = s.tables; down = s.down }) c.in-Ok.ensures.ok
    ∙ ap (λ n. left n c.max-now.result) c.in-Ok.ensures.clock in
    subst (IsAfter (state c) (entry c.args.moment (Accept c.args.listener c.args.real) (reply c))) (ap (λ n. left n n) (sym now) ∙ sym enters)
    (accepted (state c) c.self.invariant c.args.moment c.args.listener arrival decision c.in_ok-id.field-0.id own next.there next.next next.version now is)

pub invariant_of-self-2 : goal.invariant_of-self-2
invariant_of-self-2 c = (after_is c).known

pub returns-clause-new : goal.returns-clause-new
unfolding state reply
returns-clause-new c =
    rw c.reply.ensures ((after_is c).same ∙ ap (λ s. after s (entry c.args.moment (Accept c.args.listener c.args.real) (reply c) ∷ [])) c.self.view_is)
