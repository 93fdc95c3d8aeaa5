use Rattle.std.proofs.Common.{sym}
use Rattle.audit_core.proofs.PassLemmas.{short_line, text_taken}
use Rattle.audit_core.proofs.auditor.add_line.Goals as goal

pub returns-in-Ok-clause-ok : goal.returns-in-Ok-clause-ok
returns-in-Ok-clause-ok c = (
  c.in-Some.text.now,
  text_taken c.args.at c.args.line.now c.in-Some.text.now (short_line c.args.at c.args.line.now c.requires.short c.requires.few) (sym c.in-Some.ensures),
  c.in-Ok.ensures.new,
)
