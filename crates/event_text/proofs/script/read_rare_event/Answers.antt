use Rattle.std.proofs.Common.{sym, ◌∙◌}
use Rattle.event_text.proofs.script.read_rare_event.Goals as goal

pub read_bare_event-requires : goal.read_bare_event-requires
read_bare_event-requires c = c.requires.connected

pub returns-then-is : goal.returns-then-is
returns-then-is c = λ buffer. rw (c.requires.accept, c.requires.piece, c.requires.close, sym c.is.ensures ∙ c.if-is.true) (c.read_mark.ensures buffer)

pub returns : goal.returns
returns c = λ buffer. rw (c.requires.accept, c.requires.piece, c.requires.close, sym c.is.ensures ∙ c.if-is.false) (c.read_bare_event.ensures buffer)
