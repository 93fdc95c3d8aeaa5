use Rattle.whatif_core.specs.Noting.{noted_in}
use Rattle.whatif_core.proofs.WriteLemmas.{sends_all}
use Rattle.whatif_core.proofs.printing.send.Goals as goal

pub returns-in-Ok-clause-sends : goal.returns-in-Ok-clause-sends
returns-in-Ok-clause-sends g c = λ sent is.
    sends_all _ sent (noted_in c.args.journal.now) (noted_in c.clear.new.self) ((rw c.unsent.ensures at c.in-Ok.ensures.ok) sent is) c.clear.ensures

pub returns-in-Err-clause-front : goal.returns-in-Err-clause-front
returns-in-Err-clause-front g c = rw c.unsent.ensures at c.in-Err.ensures.front
