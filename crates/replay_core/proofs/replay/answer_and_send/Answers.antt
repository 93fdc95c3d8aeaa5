use Rattle.std.proofs.Common.{None, ap, subst, sym, inr, [], refl}
use Rattle.std.proofs.lemmas.Result.{err_from_is_err_and}
use Rattle.replay_core.specs.Progress.{ReplayProgress}
use Rattle.replay_core.specs.Reading.{WritesAll}
use Rattle.replay_core.proofs.ReachLemmas.{cut_reaches, reaches_start}
use Rattle.replay_core.proofs.EndLemmas.{done_ok, done_write, ends_write}
use Rattle.replay_core.proofs.replay.answer_and_send.Goals as goal

pub returns-in-Ok-answer_all-clause-ok : goal.returns-in-Ok-answer_all-clause-ok
returns-in-Ok-answer_all-clause-ok g c = λ script sent left held.
    subst (λ n. WritesAll sent c.args.session.now script (g.O.Output.held c.send.new.writer) n None) (sym (ap (λ (s : ReplayProgress). s.answered) c.in_ok-send-in-Ok-answer_all.ensures.empty))
    (done_ok _ _ _ _ _ _ _ (c.in-Ok-answer_all.ensures.ok script sent left held).1 c.in_ok-send-in-Ok-answer_all.ensures.wrote)

pub returns-clause-early_end : goal.returns-clause-early_end
returns-clause-early_end g c = λ script sent left held. c.finish.ensures.early_end _ _ _ _ (c.in-Err.ensures.stops script sent left held)

pub returns-in_err-send-in-Ok-answer_all-clause-early_end : goal.returns-in_err-send-in-Ok-answer_all-clause-early_end
returns-in_err-send-in-Ok-answer_all-clause-early_end g c =
    let p = err_from_is_err_and c.from_residual.result c.from_residual.ensures.1 in
    rw (p.1, p.2)
    (λ script sent left held.
    let all = c.in-Ok-answer_all.ensures.ok script sent left held in
    ends_write _ _ _ _ _ _ _ c.in_err-send-in-Ok-answer_all.ensures.err (inr (done_write _ _ _ _ _ _ _ _ all.0 all.1 c.in_err-send-in-Ok-answer_all.ensures.front)))

pub returns-in_default-clause-early_end : goal.returns-in_default-clause-early_end
returns-in_default-clause-early_end g c = λ script sent left held.
    cut_reaches _ _ _ _ _ _ _ (reaches_start sent c.args.session.now script _ _ [] refl left held)
