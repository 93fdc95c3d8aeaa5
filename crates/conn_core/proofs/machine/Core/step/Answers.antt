use Rattle.conn_model.specs.History.{owned_event}
use Rattle.conn_model.proofs.Well.{reply_after, fault_after}
use Rattle.conn_core.proofs.machine.Core.step.Goals as goal

pub returns-clause-reply : goal.returns-clause-reply
returns-clause-reply c = reply_after c.args.self.now c.dispatch-reply.new.self c.dispatch-reply.result c.args.moment (owned_event c.args.event.now) c.dispatch-reply.ensures.reply c.dispatch-reply.ensures.new

pub returns-clause-fault : goal.returns-clause-fault
returns-clause-fault c = fault_after c.args.self.now c.dispatch-reply.result c.args.moment (owned_event c.args.event.now) c.dispatch-reply.ensures.fault
