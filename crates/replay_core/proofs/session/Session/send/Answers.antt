use Rattle.std.proofs.Common.{◌≡◌, ◌++◌, ◌∙◌, ap}
use Rattle.replay_core.specs.Turns.{script_outcome_in}
use Rattle.replay_core.proofs.FrontLemmas.{front_written}
use Rattle.replay_core.proofs.session.Session.send.Goals as goal

pub returns-in-Err-clause-front : goal.returns-in-Err-clause-front
returns-in-Err-clause-front g c =
    let text : c.as_slice.result.now ≡ c.args.self.now.unsent = c.as_slice.ensures.value ∙ ap (λ s. s.unsent) c.self.view_is in
    λ sent bytes is more.
    front_written _ _ c.args.self.now.unsent (rw text at c.in-Err.ensures.err) sent (script_outcome_in c.args.self.now.plain c.args.self.now.reload c.args.self.now.before (bytes ++ more)).text is
