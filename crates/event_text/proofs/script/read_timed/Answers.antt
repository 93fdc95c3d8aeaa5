use Rattle.std.proofs.Common.{sym, ap, ◌∙◌}
use Rattle.std.specs.Prelude.{option_map}
use Rattle.event_text.specs.Script.{event_read, words_of}
use Rattle.event_text.proofs.FrontLemmas.{not_event, whole_event}
use Rattle.event_text.proofs.script.read_timed.Goals as goal

pub returns-then-not-is-clause-head : goal.returns-then-not-is-clause-head
returns-then-not-is-clause-head c =
    not_event c.args.moment c.args.text.now c.in_ok-verb.verb.now (words_of c.in_ok-verb.rest.now) c.if-text-eq114.true c.in_ok-verb.ensures.some (sym c.is.ensures ∙ c.if-not-is.true)

pub returns-then-text-eq114-clause-head : goal.returns-then-text-eq114-clause-head
returns-then-text-eq114-clause-head c =
    rw (c.in_ok-verb.ensures.some, sym c.is.ensures ∙ c.if-not-is.false) (c.read_reload.ensures.head c.args.buffer.now)

pub returns-clause-head : goal.returns-clause-head
returns-clause-head c =
    whole_event c.args.moment (words_of c.args.text.now) (event_read c.event_after.new.buffer c.in_ok-event.event)
    (ap (option_map (event_read c.event_after.new.buffer)) (sym c.in_ok-event.was) ∙ c.event_after.ensures.event)
