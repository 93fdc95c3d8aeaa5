use Rattle.std.proofs.Common.{◌≡◌, ◌+◌, ◌++◌, Some, Ok, true, length, ap, sym, ◌∙◌}
use Rattle.std.proofs.Math.Seq.{take-append_seam}
use Rattle.std.specs.Prelude.{drop, option_map, take}
use Rattle.conn_model.specs.History.{owned_event}
use Rattle.event_text.specs.Script.{event_read, head_read, words_of}
use Rattle.event_text.specs.declared.script.FirstLine.TheVariants.{Whole}
use Rattle.audit_core.specs.Printing.{due_reply}
use Rattle.audit_core.specs.Record.{numbered_head}
use Rattle.audit_core.specs.Standing.{is_between, on_line}
use Rattle.conn_model.specs.declared.event.OwnedEvent.{OwnedEvent}
use Rattle.whatif_core.specs.Lines.{both_on, event_at, handed_after, turn_after, turn_at, whole_in, Both}
use Rattle.whatif_core.proofs.TurnLemmas.{both_of_line, event_of_line, not_reload, turn_of_line}
use Rattle.whatif_core.proofs.twin.Twin.take_line.Goals as goal

-- both before the line
before : (c : goal.In-Ok) → Both
before c = record { checked = c.self.inside.auditor; trial = c.self.inside.trial }

-- the event that was read of it
event : (c : goal.In-Ok) → OwnedEvent
event c = event_read c.check_first_again.new.piece c.in-Whole.request

given : (c : goal.In-Ok) → event_at (before c).checked c.args.line.now ≡ Some (c.in-Whole.moment, event c)
unfolding before event
given c =
    let piece = c.check_first_again.new.piece in
    let first = c.in_ok-moment.field-0 in
    let between : is_between (before c).checked.due ≡ true = cc in
    let reads : option_map (head_read piece) (Some first) ≡ numbered_head ((before c).checked.records + 1) (words_of c.args.line.now) = sym c.in_ok-moment.ensures.first in
    let read : first ≡ Whole c.in-Whole.moment c.in-Whole.request = cc in
    event_of_line (before c).checked c.args.line.now piece (Some first) between reads ∙ ap (λ f. whole_in (Some (head_read piece f))) read

step : (c : goal.In-Ok) → on_line (before c).checked c.args.line.now ≡ Ok c.check_first_again.new.auditor
unfolding before
step c = c.in_ok-moment.ensures.ok

-- it was handed in with the bytes of its piece
handed_in : (c : goal.In-Ok) → owned_event c.event-event.result ≡ event c
unfolding event
handed_in c =
    let piece = c.check_first_again.new.piece in
    let room : c.self.inside.piece.len ≡ length piece = sym (c.check_first_again.ensures.room ∙ c.deref_mut.ensures.len) in
    let same : c.deref.result.now ≡ piece =
    c.deref.ensures.value ∙ ap (λ n. take n (piece ++ drop (length piece) c.self.inside.piece.items)) room ∙ take-append_seam piece (drop (length piece) c.self.inside.piece.items) in
    c.event-event.ensures.event ∙ ap (λ p. event_read p c.in-Whole.request) same

pub returns-in-Ok-clause-ok : goal.returns-in-Ok-clause-ok
unfolding before event
returns-in-Ok-clause-ok c =
    let next = c.check_first_again.new.auditor in
    let trial : c.play.new.trial ≡ handed_after next.plain.versions (before c).trial c.in-Whole.moment (event c) (due_reply next.due) = rw (handed_in c) at c.in-Ok.ensures.trial in
    ap (λ s. both_on s c.args.line.now) (sym c.self.view_is)
    ∙ both_of_line (before c) next c.args.line.now (c.in-Whole.moment, event c) c.play.new.trial (given c) (not_reload c.check_first_again.new.piece c.in-Whole.request) (step c) trial

pub returns-in-Ok-clause-turn : goal.returns-in-Ok-clause-turn
unfolding before event
returns-in-Ok-clause-turn c =
    let next = c.check_first_again.new.auditor in
    let turn : c.in-Ok.turn ≡ option_map (turn_after next.plain (before c).trial c.in-Whole.moment (event c)) (due_reply next.due) = rw (handed_in c) at c.in-Ok.ensures.turn in
    turn
    ∙ turn_of_line (before c) next c.args.line.now (c.in-Whole.moment, event c) (given c) (not_reload c.check_first_again.new.piece c.in-Whole.request) (step c)
    ∙ ap (λ s. turn_at s c.args.line.now) c.self.view_is
