use Rattle.std.proofs.Common.{◌∙◌, refl, rules, None, Some}
use Rattle.link_core.specs.Idle.{AreOver}
use Rattle.worker_conns.proofs.ConnLemmas.{relayed_kept}
use Rattle.worker_conns.proofs.conn.Conn.relay_by.Goals as goal

pub returns-then-is_over : goal.returns-then-is_over
returns-then-is_over g c = λ server is.
    let over : AreOver c.pump_both-progress.new.relay = search rules in
    relayed_kept g.K.Input.left g.K.Output.held c.args.self.now.client server _ _ _ _ _ c.pump_both-progress.new.relay None c.pump_both-progress.new.self.relay refl refl
    (over, c.pump_both-progress.ensures.relay ∙ c.requires) (c.pump_both-progress.ensures.passes server is)

pub returns : goal.returns
returns g c = λ server is.
    relayed_kept g.K.Input.left g.K.Output.held c.args.self.now.client server _ _ _ _ _ c.pump_both-progress.new.relay (Some c.pump_both-progress.result) c.keep_relay.new.self.relay c.keep_relay.ensures.client c.keep_relay.ensures.server c.keep_relay.ensures.relay
    (c.pump_both-progress.ensures.passes server is)
