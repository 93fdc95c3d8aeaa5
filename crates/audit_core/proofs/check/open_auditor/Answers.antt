use Rattle.std.proofs.Common.{◌∙◌, ap}
use Rattle.conn_model.specs.Counts.{open_connections}
use Rattle.audit_core.proofs.OpenLemmas.{none_open}
use Rattle.audit_core.proofs.check.open_auditor.Goals as goal

pub new-auditor-requires-clause-none : goal.new-auditor-requires-clause-none
new-auditor-requires-clause-none c =
    let opened = c.in-Ok-open_core.ensures.ok in
    ap open_connections opened.2 ∙ none_open opened.0 0
