use Rattle.std.proofs.Common.{◌-◌, arith}
use Rattle.std.proofs.lemmas.Result.{err_from_is_err_and}
use Rattle.device_core.specs.declared.patience.TheConstants.{MOST_READS}
use Rattle.pipe_core.proofs.DeliveryLemmas.{cut, piped, stopped}
use Rattle.pipe_core.proofs.pipe.pipe.Goals as goal

pub returns-in_ok-written-in-Offered-clause-calls : goal.returns-in_ok-written-in-Offered-clause-calls
returns-in_ok-written-in-Offered-clause-calls g c = (
  MOST_READS - c.serve.new.reads,
  omega arith,
  omega (arith, c.in_ok-written-in-Offered.ensures.calls, c.in_ok-written-in-Offered.ensures.no_more, c.in_ok-offer.ensures.calls, c.in_ok-offer.ensures.no_more),
)

pub returns-in_err-written-in-Offered-clause-calls : goal.returns-in_err-written-in-Offered-clause-calls
returns-in_err-written-in-Offered-clause-calls g c = (
  MOST_READS - c.serve.new.reads,
  omega arith,
  omega (arith, c.in_err-written-in-Offered.ensures.calls, c.in_err-written-in-Offered.ensures.no_more, c.in_ok-offer.ensures.calls, c.in_ok-offer.ensures.no_more),
)

pub returns-in_ok-written-in-Offered-clause-ok : goal.returns-in_ok-written-in-Offered-clause-ok
returns-in_ok-written-in-Offered-clause-ok g c = λ input sent left held.
    piped c.args.core.now c.args.name.now c.in_ok-listener.listener c.args.real _ _ _ _ _ _ c.in-Offered.offer _ c.in_ok-listener.ensures.ok (rw c.in-Offered.is at c.in_ok-offer.ensures.ok)
    c.in_ok-written-in-Offered.ensures.ok c.in_ok-written-in-Offered.ensures.all input sent left held

pub returns-in_err-written-in-Offered-clause-early_end : goal.returns-in_err-written-in-Offered-clause-early_end
returns-in_err-written-in-Offered-clause-early_end g c =
    let p = err_from_is_err_and c.from_residual-in_err-written-in-Offered.result c.from_residual-in_err-written-in-Offered.ensures.1 in
    rw (p.1, p.2)
    (λ input sent left held.
    stopped c.args.core.now c.args.name.now c.args.real input sent _ _ _ c.in_err-written-in-Offered.ensures.kind
    (cut c.args.core.now c.args.name.now c.in_ok-listener.listener c.args.real _ _ _ _ _ _ c.in-Offered.offer c.in_ok-listener.ensures.ok (rw c.in-Offered.is at c.in_ok-offer.ensures.ok)
    c.in_err-written-in-Offered.ensures.err input sent left held))
