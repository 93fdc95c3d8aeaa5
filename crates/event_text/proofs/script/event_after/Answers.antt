use Rattle.std.proofs.Common.{sym, ap, ◌∙◌}
use Rattle.std.specs.Prelude.{codes}
use Rattle.event_text.specs.Fronts.{event_after}
use Rattle.event_text.proofs.FrontLemmas.{accept_verb, close_verb, connected_verb, other_verb, piece_verb}
use Rattle.event_text.proofs.script.event_after.Goals as goal

pub returns-in-Some-clause-event : goal.returns-in-Some-clause-event
returns-in-Some-clause-event c = c.read_accept.ensures c.args.buffer.now ∙ accept_verb c.args.text.now c.in-Some.rest.now c.in-Some.ensures.some

pub returns-in-Some-after-clause-event : goal.returns-in-Some-after-clause-event
returns-in-Some-after-clause-event c = c.read_piece.ensures.event ∙ piece_verb c.args.text.now c.in-Some-after.rest.now c.in-Some-after.ensures.some

pub returns-in-Some-after-2-clause-event : goal.returns-in-Some-after-2-clause-event
returns-in-Some-after-2-clause-event c = c.read_connected.ensures c.args.buffer.now ∙ connected_verb c.args.text.now c.in-Some-after-2.rest.now c.in-Some-after-2.ensures.some

pub returns-in-Some-after-3-clause-event : goal.returns-in-Some-after-3-clause-event
returns-in-Some-after-3-clause-event c = c.read_close.ensures c.args.buffer.now ∙ close_verb c.args.text.now c.in-Some-after-3.rest.now c.in-Some-after-3.ensures.some

pub read_rare_event-requires : goal.read_rare_event-requires
read_rare_event-requires c = record {
  accept = other_verb c.args.text.now c.in_ok-verb.verb.now c.in_ok-verb.rest.now (codes "accept") c.in_ok-verb.ensures.some c.in_default.ensures.none;
  piece = other_verb c.args.text.now c.in_ok-verb.verb.now c.in_ok-verb.rest.now (codes "piece") c.in_ok-verb.ensures.some c.in_default-after.ensures.none;
  connected = other_verb c.args.text.now c.in_ok-verb.verb.now c.in_ok-verb.rest.now (codes "connected") c.in_ok-verb.ensures.some c.in_default-after-2.ensures.none;
  close = other_verb c.args.text.now c.in_ok-verb.verb.now c.in_ok-verb.rest.now (codes "close") c.in_ok-verb.ensures.some c.in_default-after-3.ensures.none;
}

pub returns-clause-event : goal.returns-clause-event
returns-clause-event c = c.read_rare_event.ensures c.args.buffer.now ∙ sym (ap (λ words. event_after words) c.in_ok-verb.ensures.some)
