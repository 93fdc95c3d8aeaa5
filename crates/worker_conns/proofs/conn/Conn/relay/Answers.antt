use Rattle.std.proofs.Common.{◌∙◌, ap}
use Rattle.link_core.specs.declared.stream.Progress.TheVariants.{Fault}
use Rattle.worker_conns.proofs.ConnLemmas.{relayed_none, relayed_taken}
use Rattle.worker_conns.proofs.conn.Conn.relay.Goals as goal

pub returns-in-Ok : goal.returns-in-Ok
returns-in-Ok g c = λ server is.
    relayed_taken g.K.Input.left g.K.Output.held c.args.self.now.client server c.take_relay.new.self.client c.args.self.now.relay c.in-Ok.relay _ _ _ _
    (ap (λ s. s.client) c.take_relay.ensures.rest) c.in-Ok.ensures.relay
    (c.relay_by.ensures server (ap (λ s. s.server) c.take_relay.ensures.rest ∙ is))

pub returns-in-Err : goal.returns-in-Err
returns-in-Err g c = λ server is.
    relayed_none g.K.Input.left g.K.Output.held c.args.self.now.client server _ c.args.self.now.relay _ Fault _
    (ap (λ s. s.client) c.take_relay.ensures.rest) (ap (λ s. s.server) c.take_relay.ensures.rest ∙ is) c.in-Err.ensures.failed (ap (λ s. s.relay) c.take_relay.ensures.rest)
