use Rattle.std.proofs.Common.{◌≡◌, true, ap, sym}
use Rattle.replay_core.specs.Reading.{writes_answers}
use Rattle.replay_core.specs.Progress.{ReplayProgress}
use Rattle.replay_core.proofs.EndLemmas.{ends_write, finish_ok, finish_write}
use Rattle.replay_core.proofs.replay.finish.Goals as goal

pub returns-in-Ok-clause-early_end : goal.returns-in-Ok-clause-early_end
returns-in-Ok-clause-early_end g c =
    let answers : writes_answers c.args.fault ≡ true = sym c.if-not-writes_answers.ensures in
    λ sent s script left stops.
    finish_ok _ _ _ _ _ _ _ _ c.args.fault answers (ap (λ (s : ReplayProgress). s.answered) c.in-Ok.ensures.empty) c.in-Ok.ensures.wrote c.in-Ok.ensures.ok stops

pub returns-in-Err-clause-early_end : goal.returns-in-Err-clause-early_end
returns-in-Err-clause-early_end g c =
    let answers : writes_answers c.args.fault ≡ true = sym c.if-not-writes_answers.ensures in
    λ sent s script left stops.
    ends_write _ _ _ _ _ _ _ c.in-Err.ensures.err (finish_write _ _ _ _ _ _ _ c.args.fault answers c.in-Err.ensures.front stops)
