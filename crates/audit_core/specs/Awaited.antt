-- What the next line has to be, as the check of a record keeps it.
use Rattle.std.specs.Prelude.{Option, Result}
use Rattle.addr_core.specs.declared.addr.Endpoint.{Endpoint}
use Rattle.conn_model.specs.declared.reply.Reply.{Reply}
use Rattle.conn_model.specs.declared.reply.StepFault.{StepFault}
use Rattle.event_text.specs.Script.{Pending}
use Rattle.audit_core.specs.declared.due.Awaited.{Awaited}
use Rattle.audit_core.specs.declared.due.Due.{Due}
use Rattle.audit_core.specs.declared.due.Due.TheVariants as dues
use Rattle.audit_core.specs.declared.due.NextLine.{NextLine}
use Rattle.audit_core.specs.declared.due.NextLine.TheVariants as nexts

-- of the parts only those of the next line count
abbrev pub due_by : NextLine → Pending → Option Endpoint → Result Reply StepFault → Due
due_by nexts.Event reload peer answered = dues.Event
due_by nexts.Text reload peer answered = dues.Text reload
due_by nexts.Reply reload peer answered = dues.Reply peer answered

abbrev pub due_of : Awaited → Due
due_of awaited = due_by awaited.next awaited.reload awaited.peer awaited.answered
