use Rattle.replay_core.proofs.FrontLemmas.{front_line}
use Rattle.replay_core.proofs.check.write_line.Goals as goal

pub returns-in-Err-clause-front : goal.returns-in-Err-clause-front
returns-in-Err-clause-front g c =
    λ sent is. front_line _ _ c.args.line.now c.in-Err.ensures.err sent is
