use Rattle.std.proofs.Common.{◌∙◌}
use Rattle.event_text.specs.Script.{words_of}
use Rattle.event_text.proofs.FrontLemmas.{bare_some}
use Rattle.event_text.proofs.script.read_bare_event.Goals as goal

pub returns : goal.returns
returns c = λ buffer. c.event_on.ensures buffer ∙ bare_some c.args.verb.now (words_of c.args.rest.now) c.in_ok-id.id c.in_ok-id.ensures
