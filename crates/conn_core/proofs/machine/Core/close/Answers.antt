use Rattle.std.proofs.Common.{◌≡◌, ◌∙◌, [], ◌∷◌, Ok, max, ap, sym, refl}
use Rattle.conn_model.specs.declared.event.OwnedEvent.TheVariants.{Close}
use Rattle.conn_model.specs.declared.reply.Said.TheVariants.{Closed}
use Rattle.conn_model.specs.declared.plain.Plain.{Plain}
use Rattle.conn_model.specs.Answer.{answer_in, reply_of}
use Rattle.conn_model.specs.History.{after, entry}
use Rattle.conn_core.specs.Machine.{state_of}
use Rattle.conn_core.proofs.NeededLemmas.{held_removed, held_without}
use Rattle.conn_core.proofs.RowLemmas.{open_row}
use Rattle.conn_core.proofs.StateLemmas.{IsAfter, after_last}
use Rattle.conn_core.proofs.machine.Core.close.Goals as goal

pub forget-requires : goal.forget-requires
forget-requires c = held_removed c.args.id c.remove.ensures c.pass.ensures (held_without (state_of c.self.inside.listeners c.self.inside.rows) c.self.invariant.well c.args.id)

state : (c : goal.After-plain_reply) → Plain
state c = state_of c.self.inside.listeners c.self.inside.rows

after_is : (c : goal.After-plain_reply) → IsAfter (state c) (entry c.args.moment (Close c.args.id c.args.why) (reply_of (Closed c.args.id c.args.why)))
    (state_of c.self.inside.listeners c.forget.new.self)
unfolding state
after_is c =
    let now : c.max-now.result ≡ max c.self.inside.rows.clock c.args.moment =
    c.max-now.ensures ∙ ap (λ n. max n c.args.moment) (c.clock.ensures.value ∙ ap (λ s. s.clock) (sym c.self.view_is)) in
    let row = open_row c.self.inside.rows.frontends c.args.id c.in-Some._row (sym c.row.ensures ∙ c.in-Some.is) in
    let is : answer_in (state c) c.args.moment (Close c.args.id c.args.why) ≡ Ok (reply_of (Closed c.args.id c.args.why)) = rw row.1 refl in
    rw (c.forget.ensures, c.remove.ensures, c.pass.ensures, now)
    (after_last (state c) c.self.invariant c.args.moment (Close c.args.id c.args.why) c.args.id (Closed c.args.id c.args.why) row.0 row.1 tt refl refl is)

pub invariant_of-self : goal.invariant_of-self
invariant_of-self c = (after_is c).known

pub returns-clause-new : goal.returns-clause-new
unfolding state
returns-clause-new c =
    rw c.plain_reply.ensures ((after_is c).same ∙ ap (λ s. after s (entry c.args.moment (Close c.args.id c.args.why) (reply_of (Closed c.args.id c.args.why)) ∷ [])) c.self.view_is)
