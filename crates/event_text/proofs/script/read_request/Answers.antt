use Rattle.std.proofs.Common.{◌∙◌}
use Rattle.event_text.proofs.EventLemmas.{wanted_of-line}
use Rattle.event_text.proofs.script.read_request.Goals as goal

pub returns-clause-again : goal.returns-clause-again
returns-clause-again c = λ moment event short given is. c.request_in.ensures.request ∙ wanted_of-line c.args.line.now moment event short given is
