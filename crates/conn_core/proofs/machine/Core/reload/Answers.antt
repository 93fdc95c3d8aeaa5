use Rattle.std.proofs.Common.{◌≡◌, ◌∙◌, [], ◌∷◌, Some, Ok, max, ap, sym, subst}
use Rattle.config_core.specs.Meaning.{meaning}
use Rattle.conn_model.specs.declared.event.OwnedEvent.TheVariants.{Reload}
use Rattle.conn_model.specs.declared.reply.Said.TheVariants.{Reloaded}
use Rattle.conn_model.specs.declared.plain.Plain.{Plain}
use Rattle.conn_model.specs.Answer.{answer_in, reload_answer, reply_of}
use Rattle.conn_model.specs.History.{after, entry}
use Rattle.conn_model.specs.Tables.{open_tracks, tables_alive}
use Rattle.conn_model.specs.Words.{newest}
use Rattle.conn_rows.specs.Needed.{versions_needed, AreTracksHeld}
use Rattle.conn_rows.specs.Value.{RowsValue}
use Rattle.conn_core.specs.Machine.{state_of, IsNextVersion}
use Rattle.conn_core.proofs.NeededLemmas.{held_with, next_is, rows_kept}
use Rattle.conn_core.proofs.StateLemmas.{IsAfter, after_reload, with_alive}
use Rattle.conn_core.proofs.machine.Core.reload.Goals as goal

pub reload-requires-clause-next : goal.reload-requires-clause-next
reload-requires-clause-next c =
    next_is (state_of c.self.inside.listeners c.self.inside.rows) c.self.invariant.well c.in_ok-version.version
    (subst (λ p. IsNextVersion p c.in_ok-version.version) (sym c.self.view_is) c.in_ok-version.ensures.next)

pub reload-requires-clause-kept : goal.reload-requires-clause-kept
reload-requires-clause-kept c = rows_kept (state_of c.self.inside.listeners c.self.inside.rows) c.self.invariant.well

pub forget-requires : goal.forget-requires
forget-requires c =
    subst (λ (r : RowsValue). AreTracksHeld r.frontends (versions_needed r.frontends r.versions)) (sym (c.pass.ensures ∙ ap (λ (r : RowsValue). record r { tables = tables_alive c.max-now.result (open_tracks r.frontends) r.tables; clock = c.max-now.result }) c.in-Ok.ensures.ok))
    (held_with (state_of c.self.inside.listeners c.self.inside.rows) c.self.invariant.well (Some (c.in_ok-version.version, c.in_ok-plan.plan)))

state : (c : goal.After-plain_reply) → Plain
state c = state_of c.self.inside.listeners c.self.inside.rows

after_is : (c : goal.After-plain_reply) → IsAfter (state c) (entry c.args.moment (Reload c.args.text.now) (reply_of (Reloaded c.in_ok-version.version)))
    (state_of c.self.inside.listeners c.forget.new.self)
unfolding state
after_is c =
    let now : c.max-now.result ≡ max c.self.inside.rows.clock c.args.moment =
    c.max-now.ensures ∙ ap (λ n. max n c.args.moment) (c.clock.ensures.value ∙ ap (λ s. s.clock) (sym c.self.view_is)) in
    let brought = Some (c.in_ok-version.version, c.in_ok-plan.plan) in
    let begun = with_alive (max c.self.inside.rows.clock c.args.moment) (open_tracks c.self.inside.rows.frontends) c.self.inside.rows.tables (newest c.self.inside.rows.versions) brought in
    let is : answer_in (state c) c.args.moment (Reload c.args.text.now) ≡ Ok (reply_of (Reloaded c.in_ok-version.version)) =
    ap (λ p. reload_answer p (meaning c.args.text.now)) c.self.view_is ∙ ap (reload_answer c.args.self.now) c.in_ok-plan.ensures.ok ∙ c.in_ok-version.ensures.ok in
    rw (c.forget.ensures, c.pass.ensures, c.in-Ok.ensures.ok, now, begun)
    (after_reload (state c) c.self.invariant c.args.moment c.in_ok-version.version c.args.text.now c.in_ok-plan.plan c.in_ok-plan.ensures.ok c.in_ok-plan.ensures.sound is)

pub invariant_of-self-2 : goal.invariant_of-self-2
invariant_of-self-2 c = (after_is c).known

pub returns-clause-new : goal.returns-clause-new
unfolding state
returns-clause-new c =
    rw c.plain_reply.ensures ((after_is c).same ∙ ap (λ s. after s (entry c.args.moment (Reload c.args.text.now) (reply_of (Reloaded c.in_ok-version.version)) ∷ [])) c.self.view_is)
