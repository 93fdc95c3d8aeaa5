use Rattle.std.proofs.Common.{◌≡◌, ◌∙◌, ℕ, Bool, [], ◌∷◌, Ok, max, ap, sym, subst}
use Rattle.std.specs.Prelude.{slice_get}
use Rattle.conn_model.specs.declared.event.OwnedEvent.TheVariants.{Piece}
use Rattle.conn_model.specs.declared.plain.Plain.{Plain}
use Rattle.conn_model.specs.Answer.{answer_in, at_moment, waiting_row}
use Rattle.conn_model.specs.Tables.{open_tracks, tables_alive}
use Rattle.conn_model.specs.History.{after, entry, is_last, tables_by, with_said}
use Rattle.conn_model.proofs.Goes.{well_at}
use Rattle.conn_model.proofs.Replies.{answered, waiting}
use Rattle.conn_rows.specs.declared.row.RowSummary.{RowSummary}
use Rattle.conn_rows.specs.declared.rows.RowsState.{RowsState}
use Rattle.conn_rows.specs.Needed.{versions_needed, AreTracksHeld}
use Rattle.conn_rows.specs.Value.{RowsValue, state_of as state_of_rows}
use Rattle.conn_core.specs.Changes.{spoken}
use Rattle.conn_core.specs.Machine.{state_of, AreSound}
use Rattle.conn_core.proofs.NeededLemmas.{held_spoken}
use Rattle.conn_core.proofs.StateLemmas.{IsAfter, after_spoken, pruned_if, pruned_rows}
use Rattle.conn_core.proofs.machine.Core.piece.Goals as goal

pub receive-reply-requires-clause-sorted : goal.receive-reply-requires-clause-sorted
receive-reply-requires-clause-sorted c = λ own there.
    let same : c.pass.new.self.frontends ≡ c.self.inside.rows.frontends = ap (λ (r : RowsValue). r.frontends) c.pass.ensures ∙ ap (λ (r : RowsValue). r.frontends) c.reserve.ensures.same in
    let well = well_at (state_of c.self.inside.listeners c.self.inside.rows) c.self.invariant.well c.args.id.frontend own (ap (λ fs. slice_get fs c.args.id.frontend) (sym same) ∙ there) in
    record { rise = well.rise; sorted = well.sorted }

pub receive-reply-requires-clause-sound : goal.receive-reply-requires-clause-sound
receive-reply-requires-clause-sound c =
    subst (λ vs. AreSound vs) (sym (ap (λ (r : RowsValue). r.versions) c.pass.ensures ∙ ap (λ (r : RowsValue). r.versions) c.reserve.ensures.same)) c.self.invariant.plans

pub forget_after-requires : goal.forget_after-requires
forget_after-requires c = λ last.
    let q : Plain = state_of c.self.inside.listeners c.self.inside.rows in
    let left : RowsValue → RowsState = λ before. record {
      frontends = spoken before.versions (Piece c.args.id c.args.piece.now) c.args.id c.receive-reply.result before.frontends;
      versions = with_said c.in_ok-row.row.version c.receive-reply.result.said before.versions;
      tables = tables_by before.clock before.frontends before.tables c.receive-reply.result;
      down = before.down;
    } in
    let pass : RowsValue → RowsValue = λ r. record r { tables = tables_alive c.max-now.result (open_tracks r.frontends) r.tables; clock = c.max-now.result } in
    let leaves : state_of_rows c.receive-reply.new.rows ≡ left (pass (record c.self.inside.rows { spare = c.reserve.new.self.spare })) =
    c.receive-reply.ensures.new ∙ ap left (c.pass.ensures ∙ ap pass c.reserve.ensures.same) in
    subst (λ (s : RowsState). AreTracksHeld s.frontends (versions_needed s.frontends s.versions)) (sym leaves)
    (held_spoken q c.self.invariant.well (Piece c.args.id c.args.piece.now) c.args.id c.receive-reply.result c.in_ok-row.row.version last)

state : (c : goal.After-forget_after) → Plain
state c = state_of c.self.inside.listeners c.self.inside.rows

passed : (c : goal.After-forget_after) → RowsValue
passed c = record c.self.inside.rows {
  tables = tables_alive (max c.self.inside.rows.clock c.args.moment) (open_tracks c.self.inside.rows.frontends) c.self.inside.rows.tables;
  clock = max c.self.inside.rows.clock c.args.moment;
  spare = c.reserve.new.self.spare;
}

passes : (c : goal.After-forget_after) → c.pass.new.self ≡ passed c
unfolding passed
passes c =
    let now : c.max-now.result ≡ max c.self.inside.rows.clock c.args.moment =
    c.max-now.ensures ∙ ap (λ n. max n c.args.moment) (c.clock.ensures.value ∙ ap (λ s. s.clock) (sym c.self.view_is)) in
    let pass : ℕ → RowsValue → RowsValue = λ n r. record r { tables = tables_alive n (open_tracks r.frontends) r.tables; clock = n } in
    c.pass.ensures ∙ ap (pass c.max-now.result) c.reserve.ensures.same ∙ ap (λ n. pass n (record c.self.inside.rows { spare = c.reserve.new.self.spare })) now

answer_is : (c : goal.After-forget_after) → answer_in (state c) c.args.moment (Piece c.args.id c.args.piece.now) ≡ Ok c.receive-reply.result
unfolding state passed
answer_is c =
    c.receive-reply.ensures.reply (at_moment c.args.moment (state c))
    (record { frontends = ap (λ (r : RowsValue). r.frontends) (sym (passes c)); versions = ap (λ (r : RowsValue). r.versions) (sym (passes c)); tables = ap (λ (r : RowsValue). r.tables) (sym (passes c)); down = ap (λ (r : RowsValue). r.down) (sym (passes c)) })

after_is : (c : goal.After-forget_after) → IsAfter (state c) (entry c.args.moment (Piece c.args.id c.args.piece.now) c.receive-reply.result)
    (state_of c.self.inside.listeners c.forget_after.new.rows)
unfolding state passed
after_is c =
    let rows : RowsValue = c.self.inside.rows in
    let found = c.in_ok-row.ensures.ok.0 in
    let waits : waiting_row rows.frontends c.args.id ≡ Ok found = ap (λ p. waiting_row p.frontends c.args.id) c.self.view_is ∙ c.in_ok-row.ensures.ok.1 in
    let speaks = (answered (state c) c.args.moment (Piece c.args.id c.args.piece.now) c.receive-reply.result (answer_is c)).speaks in
    let left : ℕ → RowsValue → Plain = λ version before. record {
      clock = before.clock;
      listeners = c.self.inside.listeners;
      frontends = spoken before.versions (Piece c.args.id c.args.piece.now) c.args.id c.receive-reply.result before.frontends;
      versions = with_said version c.receive-reply.result.said before.versions;
      tables = tables_by before.clock before.frontends before.tables c.receive-reply.result;
      down = before.down;
    } in
    let last : Bool = is_last c.receive-reply.result.said in
    let leaves : state_of c.self.inside.listeners c.receive-reply.new.rows ≡ left found.0.version (passed c) =
    ap (λ (s : RowsState). record { clock = c.receive-reply.new.rows.clock; listeners = c.self.inside.listeners; frontends = s.frontends; versions = s.versions; tables = s.tables; down = s.down }) c.receive-reply.ensures.new
    ∙ ap (λ n. record (left c.in_ok-row.row.version c.pass.new.self) { clock = n }) c.receive-reply.ensures.clock
    ∙ ap (left c.in_ok-row.row.version) (passes c) ∙ ap (λ (s : RowSummary). left s.version (passed c)) c.in_ok-row.ensures.ok.2 in
    subst (IsAfter (state c) (entry c.args.moment (Piece c.args.id c.args.piece.now) c.receive-reply.result))
    (ap (pruned_if last) (sym leaves) ∙ sym (pruned_rows c.self.inside.listeners last c.receive-reply.new.rows)
    ∙ ap (state_of c.self.inside.listeners) (sym c.forget_after.ensures))
    (after_spoken (state c) c.self.invariant c.args.moment (Piece c.args.id c.args.piece.now) c.args.id c.receive-reply.result found.0 (waiting rows.frontends c.args.id found waits).there tt speaks (answer_is c))

pub invariant_of-self-2 : goal.invariant_of-self-2
invariant_of-self-2 c = (after_is c).known

pub returns-clause-new : goal.returns-clause-new
unfolding state
returns-clause-new c = (after_is c).same ∙ ap (λ s. after s (entry c.args.moment (Piece c.args.id c.args.piece.now) c.receive-reply.result ∷ [])) c.self.view_is

pub returns-clause-reply : goal.returns-clause-reply
unfolding state
returns-clause-reply c = ap (λ p. answer_in p c.args.moment (Piece c.args.id c.args.piece.now)) (sym c.self.view_is) ∙ answer_is c
