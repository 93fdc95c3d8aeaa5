use Rattle.std.proofs.Common.{None, subst}
use Rattle.replay_core.specs.Reading.{Ends, WritesAll}
use Rattle.replay_core.proofs.PlanLemmas.{begins, ends_by, writes_script}
use Rattle.replay_core.proofs.replay.run_replay.Goals as goal

pub returns-in-Ok-replayed-clause-ok : goal.returns-in-Ok-replayed-clause-ok
returns-in-Ok-replayed-clause-ok g c = λ script sent left held.
    let start = begins c.args.config.now _ c.new-session.result c.in-Ok-open_core.ensures.ok c.in-Ok-open_core.ensures.well c.new-session.ensures in
    let answered = c.answer_and_send-replayed.new.session.answered in
    rw c.end-lines.ensures
    (writes_script c.args.config.now script sent (g.O.Output.held c.answer_and_send-replayed.new.writer) answered start.0 start.1 start.2
    (subst (λ s. WritesAll sent s script (g.O.Output.held c.answer_and_send-replayed.new.writer) answered None) start.3 (c.in-Ok-replayed.ensures.ok script sent left held)))

pub returns-in-Err-replayed-clause-early_end : goal.returns-in-Err-replayed-clause-early_end
returns-in-Err-replayed-clause-early_end g c = λ script sent left held.
    let start = begins c.args.config.now _ c.new-session.result c.in-Ok-open_core.ensures.ok c.in-Ok-open_core.ensures.well c.new-session.ensures in
    let after = c.answer_and_send-replayed.new in
    ends_by c.args.config.now script sent (g.I.Input.left after.reader) (g.O.Output.held after.writer) after.session.answered c.in-Err-replayed.fault start.0 start.1 start.2
    (subst (λ s. Ends sent s script (g.I.Input.left after.reader) (g.O.Output.held after.writer) after.session.answered c.in-Err-replayed.fault) start.3
    (c.in-Err-replayed.ensures.early_end script sent left held))
