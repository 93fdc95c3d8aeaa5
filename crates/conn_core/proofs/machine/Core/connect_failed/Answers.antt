use Rattle.std.proofs.Common.{◌≡◌, ◌∙◌, ℕ, [], ◌∷◌, None, Ok, Some, map, max, ap, sym, subst, refl}
use Rattle.conn_model.specs.declared.event.OwnedEvent.TheVariants.{ConnectFailed}
use Rattle.conn_model.specs.declared.event.Why.TheVariants.{Failed}
use Rattle.conn_model.specs.declared.reply.Said.TheVariants.{Closed}
use Rattle.conn_model.specs.declared.plain.Plain.{Plain}
use Rattle.conn_model.specs.Answer.{answer_in, at_moment, reply_of}
use Rattle.conn_model.specs.History.{after, entry, with_offer}
use Rattle.conn_model.specs.Changes.{with_conn}
use Rattle.conn_model.specs.Tables.{open_tracks, tables_alive}
use Rattle.conn_rows.specs.Changes.{row_moved}
use Rattle.conn_rows.specs.Value.{RowsValue}
use Rattle.conn_core.specs.Machine.{state_of}
use Rattle.conn_core.specs.Moving.{HasOther}
use Rattle.conn_core.specs.Outcome.{offer_of}
use Rattle.conn_core.specs.declared.outcome.Offer.{Offer}
use Rattle.conn_core.proofs.MovedLemmas.{after_moved, answers_closed, answers_moved, moved_has, moved_said, moved_to, other_said, IsMovedTo}
use Rattle.conn_core.proofs.NeededLemmas.{held_removed, held_without}
use Rattle.conn_core.proofs.StateLemmas.{IsAfter, after_last}
use Rattle.conn_core.proofs.machine.Core.connect_failed.Goals as goal

pub forget-requires : goal.forget-requires
forget-requires c = held_removed c.args.id c.remove.ensures c.pass.ensures (held_without (state_of c.self.inside.listeners c.self.inside.rows) c.self.invariant.well c.args.id)

-- It is moved nowhere, and ends.

state : (c : goal.After-plain_reply) → Plain
state c = state_of c.self.inside.listeners c.self.inside.rows

after_is : (c : goal.After-plain_reply) → IsAfter (state c) (entry c.args.moment (ConnectFailed c.args.id) (reply_of (Closed c.args.id Failed)))
    (state_of c.self.inside.listeners c.forget.new.self)
unfolding state
after_is c =
    let now : c.max-now.result ≡ max c.self.inside.rows.clock c.args.moment =
    c.max-now.ensures ∙ ap (λ n. max n c.args.moment) (c.clock.ensures.value ∙ ap (λ s. s.clock) (sym c.self.view_is)) in
    let has : HasOther (state c) c.args.id None =
    subst (λ p. HasOther p c.args.id None) (sym c.self.view_is) (subst (HasOther c.args.self.now c.args.id) c.in_default.is c.in_ok-other.ensures.ok) in
    let is : answer_in (state c) c.args.moment (ConnectFailed c.args.id) ≡ Ok (reply_of (Closed c.args.id Failed)) = answers_closed (state c) c.args.moment c.args.id has in
    rw (c.forget.ensures, c.remove.ensures, c.pass.ensures, now)
    (after_last (state c) c.self.invariant c.args.moment (ConnectFailed c.args.id) c.args.id (Closed c.args.id Failed) has.row has.row_is tt refl refl is)

pub invariant_of-self : goal.invariant_of-self
invariant_of-self c = (after_is c).known

pub returns-in_default-clause-new : goal.returns-in_default-clause-new
unfolding state
returns-in_default-clause-new c =
    rw c.plain_reply.ensures ((after_is c).same ∙ ap (λ s. after s (entry c.args.moment (ConnectFailed c.args.id) (reply_of (Closed c.args.id Failed)) ∷ [])) c.self.view_is)

-- It is moved.

pub move_to-requires-clause-server : goal.move_to-requires-clause-server
move_to-requires-clause-server c =
    let p : Plain = state_of c.self.inside.listeners c.self.inside.rows in
    let has : HasOther p c.args.id (Some c.in-Some.field-0) =
    subst (λ p. HasOther p c.args.id (Some c.in-Some.field-0)) (sym c.self.view_is) (subst (HasOther c.args.self.now c.args.id) c.in-Some.is c.in_ok-other.ensures.ok) in
    rw c.pass.ensures (moved_has p c.self.invariant c.args.id c.in-Some.field-0 (moved_to p c.args.id c.in-Some.field-0 has))

moved_state : (c : goal.After-plain_reply-2) → Plain
moved_state c = state_of c.self.inside.listeners c.self.inside.rows

moved : (c : goal.After-plain_reply-2) → IsMovedTo (moved_state c) c.args.id c.in-Some.field-0
unfolding moved_state
moved c =
    moved_to (moved_state c) c.args.id c.in-Some.field-0
    (subst (λ p. HasOther p c.args.id (Some c.in-Some.field-0)) (sym c.self.view_is) (subst (HasOther c.args.self.now c.args.id) c.in-Some.is c.in_ok-other.ensures.ok))

moved_is : (c : goal.After-plain_reply-2) → IsAfter (moved_state c) (entry c.args.moment (ConnectFailed c.args.id) (reply_of (other_said c.args.id (moved c).given (moved c).other)))
    (state_of c.self.inside.listeners c.move_to.new.self)
unfolding moved_state
moved_is c =
    let now : c.max-now.result ≡ max c.self.inside.rows.clock c.args.moment =
    c.max-now.ensures ∙ ap (λ n. max n c.args.moment) (c.clock.ensures.value ∙ ap (λ s. s.clock) (sym c.self.view_is)) in
    let to = moved c in
    let p : Plain = moved_state c in
    let made : Offer → ℕ → Plain = λ offer version. record {
      clock = max p.clock c.args.moment;
      listeners = p.listeners;
      frontends = with_conn c.args.id (row_moved p.versions offer.seat) p.frontends;
      versions = map (with_offer version offer.seat.line offer.seat.server) p.versions;
      tables = (at_moment c.args.moment p).tables;
      down = p.down;
    } in
    let passed : ℕ → RowsValue → RowsValue = λ n r. record r { tables = tables_alive n (open_tracks r.frontends) r.tables; clock = n } in
    let moves : RowsValue → RowsValue = λ r. record r {
      frontends = with_conn c.args.id (row_moved r.versions c.in-Some.field-0.offer.seat) r.frontends;
      versions = map (with_offer c.in-Some.field-0.version c.in-Some.field-0.offer.seat.line c.in-Some.field-0.offer.seat.server) r.versions;
    } in
    let rows : c.move_to.new.self ≡ moves (passed (max c.self.inside.rows.clock c.args.moment) c.self.inside.rows) =
    c.move_to.ensures ∙ ap moves (c.pass.ensures ∙ ap (λ n. passed n c.self.inside.rows) now) in
    let left : state_of c.self.inside.listeners c.move_to.new.self ≡ made c.in-Some.field-0.offer c.in-Some.field-0.version = ap (state_of c.self.inside.listeners) rows in
    let other : made c.in-Some.field-0.offer c.in-Some.field-0.version ≡ made (offer_of to.other.number to.other.server to.given.judged) to.row.version =
    ap (λ offer. made offer c.in-Some.field-0.version) to.offer_is ∙ ap (made (offer_of to.other.number to.other.server to.given.judged)) to.version in
    subst (IsAfter p (entry c.args.moment (ConnectFailed c.args.id) (reply_of (other_said c.args.id to.given to.other)))) (sym (left ∙ other))
    (after_moved p c.self.invariant c.args.moment c.args.id to.row to.given to.other to.row_is to.offered (answers_moved p c.args.moment c.args.id c.in-Some.field-0 to))

pub invariant_of-self-2 : goal.invariant_of-self-2
invariant_of-self-2 c = (moved_is c).known

pub returns-clause-new : goal.returns-clause-new
unfolding moved_state
returns-clause-new c =
    let said = c.plain_reply-2.ensures ∙ ap reply_of (c.offer_said.ensures ∙ moved_said (moved_state c) c.args.id c.in-Some.field-0 (moved c)) in
    rw said
    ((moved_is c).same ∙ ap (λ s. after s (entry c.args.moment (ConnectFailed c.args.id) (reply_of (other_said c.args.id (moved c).given (moved c).other)) ∷ [])) c.self.view_is)
