use Rattle.std.proofs.Common.{◌≡◌}
use Rattle.relay_core.specs.Law.{HasCarried}
use Rattle.relay_core.specs.Relay.{flow_of, opposite, stream_of}
use Rattle.link_core.proofs.stream.pump.Given as goal

abbrev pub invariant-loop-round : goal.invariant-loop-round
invariant-loop-round g l = record {
  carries : HasCarried (stream_of (g.K.Input.left l.initial.input) (flow_of l.way l.initial.relay) (g.K.Output.held l.initial.output))
      (stream_of (g.K.Input.left l.input) (flow_of l.way l.relay) (g.K.Output.held l.output));
  other : flow_of (opposite l.way) l.relay ≡ flow_of (opposite l.way) l.initial.relay;
}
