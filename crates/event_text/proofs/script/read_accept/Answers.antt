use Rattle.std.proofs.Common.{None, Some, arith}
use Rattle.event_text.specs.Script.{words_of}
use Rattle.event_text.proofs.FrontLemmas.{accept_some}
use Rattle.event_text.proofs.script.read_accept.Goals as goal

pub returns-in_err-real : goal.returns-in_err-real
returns-in_err-real c = λ buffer.
    rw c.from_residual-in_err-real.ensures
    (accept_some (words_of c.args.rest.now) (words_of c.in_ok-listener.rest.now) c.in_ok-listener.listener None c.in_ok-listener.ensures.words c.in_err-real.ensures)

pub overflow_cast-result : goal.overflow_cast-result
overflow_cast-result c = omega (arith, c.in_ok-listener.ensures.small)

pub returns : goal.returns
returns c = λ buffer.
    accept_some (words_of c.args.rest.now) (words_of c.in_ok-listener.rest.now) c.in_ok-listener.listener (Some c.in_ok-real.real) c.in_ok-listener.ensures.words c.in_ok-real.ensures
