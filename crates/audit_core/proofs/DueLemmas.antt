-- What the next line has to be, while another answer takes the place of the last one.
use Rattle.std.proofs.Common.{Option, Result}
use Rattle.addr_core.specs.declared.addr.Endpoint.{Endpoint}
use Rattle.conn_model.specs.declared.reply.Reply.{Reply}
use Rattle.conn_model.specs.declared.reply.StepFault.{StepFault}
use Rattle.event_text.specs.Script.{Pending}
use Rattle.audit_core.specs.Awaited.{due_by}
use Rattle.audit_core.specs.Standing.{IsDue}
use Rattle.audit_core.specs.declared.due.NextLine.{NextLine}
use Rattle.audit_core.specs.declared.due.NextLine.TheVariants as nexts

-- of the text that has to come, as many lines are missing
pub still_due : (next : NextLine) (reload : Pending) (peer : Option Endpoint) (answered other : Result Reply StepFault) → IsDue (due_by next reload peer answered) → IsDue (due_by next reload peer other)
still_due nexts.Event reload peer answered other is = is
still_due nexts.Text reload peer answered other is = is
still_due nexts.Reply reload peer answered other is = is
