use Rattle.replay_core.proofs.FrontLemmas.{front_written}
use Rattle.audit_core.proofs.printing.write_bytes.Goals as goal

pub returns-in-Err-clause-front : goal.returns-in-Err-clause-front
returns-in-Err-clause-front g c = λ sent rest is. front_written _ _ c.args.bytes.now c.in-Err.ensures.err sent rest is
