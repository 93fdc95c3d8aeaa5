use Rattle.std.proofs.Common.{◌∙◌, refl}
use Rattle.relay_core.specs.Relay.{flow_of, stream_of}
use Rattle.link_core.proofs.StreamLemmas.{carried_ended, carried_more, carried_nothing}
use Rattle.link_core.proofs.stream.pump.Goals as goal

pub returns-then-buffer-lt-PIECE_BYTES-clause-carries : goal.returns-then-buffer-lt-PIECE_BYTES-clause-carries
returns-then-buffer-lt-PIECE_BYTES-clause-carries g c = carried_nothing (stream_of (g.K.Input.left c.args.input.now) (flow_of c.args.way c.args.relay.now) (g.K.Output.held c.args.output.now))

pub loop-round-init : goal.loop-round-init
loop-round-init g c = record {
  carries = carried_nothing (stream_of (g.K.Input.left c.args.input.now) (flow_of c.args.way c.args.relay.now) (g.K.Output.held c.args.output.now));
  other = refl;
}

pub loop-round-preserved : goal.loop-round-preserved
loop-round-preserved g c = record {
  carries =
      carried_more (stream_of (g.K.Input.left c.args.input.now) (flow_of c.args.way c.args.relay.now) (g.K.Output.held c.args.output.now)) (g.K.Input.left c.loop-round.input)
      (g.K.Input.left c.burst.new.reader) (flow_of c.args.way c.loop-round.relay) (flow_of c.args.way c.burst.new.self) (g.K.Output.held c.loop-round.output) (g.K.Output.held c.burst.new.writer)
      c.loop-round.invariant.carries c.burst.ensures.carries;
  other = c.burst.ensures.other ∙ c.loop-round.invariant.other;
}

pub returns-in_default-clause-carries : goal.returns-in_default-clause-carries
returns-in_default-clause-carries g c =
    carried_more (stream_of (g.K.Input.left c.args.input.now) (flow_of c.args.way c.args.relay.now) (g.K.Output.held c.args.output.now)) (g.K.Input.left c.loop-round.input)
    (g.K.Input.left c.burst.new.reader) (flow_of c.args.way c.loop-round.relay) (flow_of c.args.way c.burst.new.self) (g.K.Output.held c.loop-round.output) (g.K.Output.held c.burst.new.writer)
    c.loop-round.invariant.carries c.burst.ensures.carries

pub returns-then-not-end_writing-clause-carries : goal.returns-then-not-end_writing-clause-carries
returns-then-not-end_writing-clause-carries g c =
    let first = stream_of (g.K.Input.left c.args.input.now) (flow_of c.args.way c.args.relay.now) (g.K.Output.held c.args.output.now) in
    carried_ended first (g.K.Input.left c.burst.new.reader) (flow_of c.args.way c.burst.new.self) (g.K.Output.held c.burst.new.writer) (g.K.Output.held c.end_writing.new.output) c.end_writing.ensures
    (carried_more first (g.K.Input.left c.loop-round.input) (g.K.Input.left c.burst.new.reader) (flow_of c.args.way c.loop-round.relay) (flow_of c.args.way c.burst.new.self)
    (g.K.Output.held c.loop-round.output) (g.K.Output.held c.burst.new.writer) c.loop-round.invariant.carries c.burst.ensures.carries)

pub returns-then-is_done-clause-carries : goal.returns-then-is_done-clause-carries
returns-then-is_done-clause-carries g c =
    let first = stream_of (g.K.Input.left c.args.input.now) (flow_of c.args.way c.args.relay.now) (g.K.Output.held c.args.output.now) in
    carried_ended first (g.K.Input.left c.burst.new.reader) (flow_of c.args.way c.burst.new.self) (g.K.Output.held c.burst.new.writer) (g.K.Output.held c.end_writing.new.output) c.end_writing.ensures
    (carried_more first (g.K.Input.left c.loop-round.input) (g.K.Input.left c.burst.new.reader) (flow_of c.args.way c.loop-round.relay) (flow_of c.args.way c.burst.new.self)
    (g.K.Output.held c.loop-round.output) (g.K.Output.held c.burst.new.writer) c.loop-round.invariant.carries c.burst.ensures.carries)
