use Rattle.std.proofs.Common.{subst}
use Rattle.conn_model.specs.declared.plain.Plain.{Plain}
use Rattle.conn_model.specs.Counts.{newest_table, AreInMemory}
use Rattle.conn_core.proofs.machine.Core.entries.Goals as goal

pub returns : goal.returns
returns c = subst (λ (p : Plain). AreInMemory (newest_table p.versions p.tables c.args.number) c.entries.result) c.self.view_is c.entries.ensures
