use Rattle.std.proofs.lemmas.Result.{IfErr-weaker}
use Rattle.pipe_core.proofs.DeliveryLemmas.{ended}
use Rattle.pipe_core.proofs.pipe.run_pipe.Goals as goal

pub returns-clause-early_end : goal.returns-clause-early_end
returns-clause-early_end g c =
    let opened = c.in-Ok-open_core.ensures.ok in
    IfErr-weaker c.pipe-end.result _ _
    (λ fault stop input sent left held. ended c.args.config.now c.args.name.now c.args.real input sent _ _ _ opened.0 opened.1 opened.2 fault (stop input sent left held))
    c.pipe-end.ensures.early_end
