use Rattle.std.proofs.Common.{◌≡◌, ◌∙◌, [], ◌∷◌, Some, ap, max, sym, subst}
use Rattle.std.specs.Option.{option_map}
use Rattle.plan_types.specs.declared.plan.Backend.{Backend}
use Rattle.plan_types.specs.declared.plan.Server.{Server}
use Rattle.proxy_types.specs.declared.server.ServerIdentity.{ServerIdentity}
use Rattle.conn_model.specs.declared.event.OwnedEvent.TheVariants.{Mark}
use Rattle.conn_model.specs.declared.reply.Said.TheVariants.{Marked}
use Rattle.conn_model.specs.declared.plain.Plain.{Plain}
use Rattle.conn_model.specs.Answer.{at_moment, checked_server, reply_of}
use Rattle.conn_model.specs.History.{after, entry, marked_by}
use Rattle.conn_core.specs.Checked.{checked_in}
use Rattle.conn_core.specs.Machine.{state_of}
use Rattle.conn_core.proofs.StateLemmas.{IsAfter, after_marked}
use Rattle.conn_core.proofs.machine.Core.mark.Goals as goal

state : (c : goal.After-plain_reply) → Plain
state c = state_of c.self.inside.listeners c.self.inside.rows

found : (c : goal.After-plain_reply) → Backend × Server
found c = checked_in c.in-Some.found

after_is : (c : goal.After-plain_reply) → IsAfter (state c) (entry c.args.moment (Mark c.args.number c.args.place c.args.health) (reply_of (Marked c.in-Some.found.server.now.line c.args.health)))
    (state_of c.self.inside.listeners c.pass.new.self)
unfolding state found
after_is c =
    let now : c.max-now.result ≡ max c.self.inside.rows.clock c.args.moment =
    c.max-now.ensures ∙ ap (λ n. max n c.args.moment) (c.clock.ensures.value ∙ ap (λ s. s.clock) (sym c.self.view_is)) in
    let seen : checked_server c.self.inside.rows.versions c.args.number c.args.place ≡ checked_server c.args.self.now.versions c.args.number c.args.place =
    ap (λ (p : Plain). checked_server p.versions c.args.number c.args.place) c.self.view_is in
    let there : checked_server c.self.inside.rows.versions c.args.number c.args.place ≡ Some (found c) = seen ∙ sym c.checked.ensures ∙ ap (option_map checked_in) c.in-Some.is in
    let left : ServerIdentity → Plain = λ identity.
    record (at_moment c.args.moment (state c)) { down = marked_by (Some (identity, c.args.health)) c.self.inside.rows.down } in
    rw (c.pass.ensures, c.in-Ok-mark.ensures.ok, now)
    (subst (λ identity. IsAfter (state c) (entry c.args.moment (Mark c.args.number c.args.place c.args.health) (reply_of (Marked c.in-Some.found.server.now.line c.args.health))) (left identity)) (sym c.in-Ok.ensures)
    (after_marked (state c) c.self.invariant c.args.moment c.args.number c.args.place c.args.health (found c) there))

pub invariant_of-self-2 : goal.invariant_of-self-2
invariant_of-self-2 c = (after_is c).known

pub returns-clause-new : goal.returns-clause-new
unfolding state
returns-clause-new c =
    rw c.plain_reply.ensures
    ((after_is c).same ∙ ap (λ s. after s (entry c.args.moment (Mark c.args.number c.args.place c.args.health) (reply_of (Marked c.in-Some.found.server.now.line c.args.health)) ∷ [])) c.self.view_is)
