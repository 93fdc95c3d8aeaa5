use Rattle.std.proofs.Common.{◌∙◌}
use Rattle.event_text.proofs.EventLemmas.{head_of-line}
use Rattle.event_text.proofs.script.read_event.Goals as goal

pub returns-clause-again : goal.returns-clause-again
returns-clause-again c = λ moment event short given is. c.head_in.ensures.head ∙ head_of-line c.args.line.now moment event short given is
