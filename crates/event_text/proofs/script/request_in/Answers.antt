use Rattle.std.proofs.Common.{sym, ◌∙◌}
use Rattle.event_text.proofs.script.request_in.Goals as goal

pub returns-then-is-clause-request : goal.returns-then-is-clause-request
returns-then-is-clause-request c = rw (c.in-Some.ensures.some, sym c.is.ensures ∙ c.if-is.true) (c.count_request.ensures.request c.args.buffer.now)
