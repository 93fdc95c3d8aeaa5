use Rattle.std.proofs.Common.{[], ap}
use Rattle.whatif_core.specs.Noting.{noted_in}
use Rattle.whatif_core.specs.Sums.{sums_text}
use Rattle.whatif_core.proofs.WriteLemmas.{sums_sent}
use Rattle.whatif_core.proofs.printing.print_sums.Goals as goal

pub returns-in-Err-send-clause-front : goal.returns-in-Err-send-clause-front
returns-in-Err-send-clause-front g c = λ sent held.
    let before = noted_in c.args.journal.now in
    sums_sent _ sent before.unsent (sums_text before.sums) (noted_in c.add_sums.new.self) (ap (λ n. n.unsent) c.in-Ok.ensures) (c.in-Err-send.ensures.front sent [] held)
