use Rattle.std.proofs.Common.{◌≡◌, ◌+◌, ◌∙◌, [], ◌∷◌, true, max, Ok, ap, sym, refl}
use Rattle.std.specs.Prelude.{nat_le}
use Rattle.conn_model.specs.declared.event.OwnedEvent.TheVariants.{Expire}
use Rattle.conn_model.specs.declared.event.TheConstants.{HEADER_WAIT}
use Rattle.conn_model.specs.declared.reply.Said.TheVariants.{Refuse}
use Rattle.conn_model.specs.declared.reply.Cause.TheVariants.{Expired}
use Rattle.conn_model.specs.declared.plain.Plain.{Plain}
use Rattle.conn_model.specs.Answer.{answer_in, reply_of, waiting_row}
use Rattle.conn_model.specs.History.{after, entry}
use Rattle.conn_model.proofs.Replies.{waiting}
use Rattle.conn_core.specs.Machine.{state_of}
use Rattle.conn_core.proofs.NeededLemmas.{held_removed, held_without}
use Rattle.conn_core.proofs.StateLemmas.{IsAfter, after_last}
use Rattle.conn_core.proofs.machine.Core.expire.Goals as goal

pub forget-requires : goal.forget-requires
forget-requires c = held_removed c.args.id c.remove.ensures c.pass.ensures (held_without (state_of c.self.inside.listeners c.self.inside.rows) c.self.invariant.well c.args.id)

state : (c : goal.After-plain_reply) → Plain
state c = state_of c.self.inside.listeners c.self.inside.rows

after_is : (c : goal.After-plain_reply) → IsAfter (state c) (entry c.args.moment (Expire c.args.id) (reply_of (Refuse c.args.id 0 Expired)))
    (state_of c.self.inside.listeners c.forget.new.self)
unfolding state
after_is c =
    let now : c.max-now.result ≡ max c.self.inside.rows.clock c.args.moment =
    c.max-now.ensures ∙ ap (λ n. max n c.args.moment) (c.clock.ensures.value ∙ ap (λ s. s.clock) (sym c.self.view_is)) in
    let found = c.in_ok-row.ensures.ok.0 in
    let waits : waiting_row c.self.inside.rows.frontends c.args.id ≡ Ok found = ap (λ p. waiting_row p.frontends c.args.id) c.self.view_is ∙ c.in_ok-row.ensures.ok.1 in
    let due : nat_le (found.0.accepted + HEADER_WAIT) (max c.self.inside.rows.clock c.args.moment) ≡ true =
    ap (λ s. nat_le (s.accepted + HEADER_WAIT) (max c.self.inside.rows.clock c.args.moment)) (sym c.in_ok-row.ensures.ok.2)
    ∙ ap (λ n. nat_le (c.in_ok-row.row.accepted + HEADER_WAIT) n) (sym now)
    ∙ sym c.is_due.ensures ∙ c.if-not-is_due.false in
    let is : answer_in (state c) c.args.moment (Expire c.args.id) ≡ Ok (reply_of (Refuse c.args.id 0 Expired)) = rw (waits, due) refl in
    rw (c.forget.ensures, c.remove.ensures, c.pass.ensures, now)
    (after_last (state c) c.self.invariant c.args.moment (Expire c.args.id) c.args.id (Refuse c.args.id 0 Expired) found.0 (waiting c.self.inside.rows.frontends c.args.id found waits).there tt refl refl is)

pub invariant_of-self : goal.invariant_of-self
invariant_of-self c = (after_is c).known

pub returns-clause-new : goal.returns-clause-new
unfolding state
returns-clause-new c =
    rw c.plain_reply.ensures ((after_is c).same ∙ ap (λ s. after s (entry c.args.moment (Expire c.args.id) (reply_of (Refuse c.args.id 0 Expired)) ∷ [])) c.self.view_is)
