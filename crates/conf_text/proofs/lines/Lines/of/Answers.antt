use Rattle.std.proofs.Common.{inr}
use Rattle.conf_text.proofs.LineLemmas.{each_line, first_fault}
use Rattle.conf_text.proofs.lines.Lines.of.Goals as goal

pub returns-in-Ok-clause-each_line : goal.returns-in-Ok-clause-each_line
returns-in-Ok-clause-each_line c = each_line c.args.text.now c.in-Ok.items c.in-Ok.ensures

pub returns-in-Err-Fault-clause-fault : goal.returns-in-Err-Fault-clause-fault
returns-in-Err-Fault-clause-fault c = inr (first_fault c.args.text.now c.in-Err-Fault.fault (rw c.in-Err-Fault.field-0-is at c.in-Err-Fault.ensures))
