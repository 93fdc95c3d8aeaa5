use Rattle.std.proofs.Common.{◌≡◌, ◌∙◌, [], ◌∷◌, Ok, max, ap, sym, subst, refl}
use Rattle.std.specs.Prelude.{IsSome}
use Rattle.conn_model.specs.declared.event.OwnedEvent.TheVariants.{Connected}
use Rattle.conn_model.specs.declared.reply.Said.TheVariants.{Up}
use Rattle.conn_model.specs.declared.plain.Plain.{Plain}
use Rattle.conn_model.specs.Answer.{answer_in, reply_of, row_at, server_answer}
use Rattle.conn_model.specs.History.{after, entry}
use Rattle.conn_model.proofs.Replies.{server_answered}
use Rattle.conn_rows.specs.Value.{RowsValue}
use Rattle.conn_core.specs.Machine.{state_of}
use Rattle.conn_core.proofs.StateLemmas.{IsAfter, after_up}
use Rattle.conn_core.proofs.machine.Core.connected.Goals as goal

pub up-requires : goal.up-requires
up-requires c =
    let q : Plain = state_of c.self.inside.listeners c.self.inside.rows in
    let is : server_answer q c.args.id (Up c.args.id) ≡ Ok (reply_of (Up c.args.id)) =
    ap (λ p. server_answer p c.args.id (Up c.args.id)) c.self.view_is ∙ c.in_ok-check_awaits_server.ensures.ok (Up c.args.id) in
    subst (λ (r : RowsValue). IsSome (row_at r.frontends c.args.id)) (sym c.pass.ensures) (subst (λ o. IsSome o) (sym (server_answered q c.args.id (Up c.args.id) (reply_of (Up c.args.id)) is).row_is) refl)

state : (c : goal.After-plain_reply) → Plain
state c = state_of c.self.inside.listeners c.self.inside.rows

after_is : (c : goal.After-plain_reply) → IsAfter (state c) (entry c.args.moment (Connected c.args.id) (reply_of (Up c.args.id)))
    (state_of c.self.inside.listeners c.up.new.self)
unfolding state
after_is c =
    let now : c.max-now.result ≡ max c.self.inside.rows.clock c.args.moment =
    c.max-now.ensures ∙ ap (λ n. max n c.args.moment) (c.clock.ensures.value ∙ ap (λ s. s.clock) (sym c.self.view_is)) in
    let is : answer_in (state c) c.args.moment (Connected c.args.id) ≡ Ok (reply_of (Up c.args.id)) =
    ap (λ p. server_answer p c.args.id (Up c.args.id)) c.self.view_is ∙ c.in_ok-check_awaits_server.ensures.ok (Up c.args.id) in
    let got = server_answered (state c) c.args.id (Up c.args.id) (reply_of (Up c.args.id)) is in
    rw (c.up.ensures, c.pass.ensures, now) (after_up (state c) c.self.invariant c.args.moment c.args.id got.row got.row_is is)

pub invariant_of-self : goal.invariant_of-self
invariant_of-self c = (after_is c).known

pub returns-clause-new : goal.returns-clause-new
unfolding state
returns-clause-new c =
    rw c.plain_reply.ensures ((after_is c).same ∙ ap (λ s. after s (entry c.args.moment (Connected c.args.id) (reply_of (Up c.args.id)) ∷ [])) c.self.view_is)
