use Rattle.std.proofs.Common.{◌≡◌, ◌+◌}
use Rattle.conn_model.specs.Counts.{open_connections}
use Rattle.audit_core.proofs.LiveLemmas.{rows_from}
use Rattle.audit_core.proofs.auditor.open_in_all.Given as goal

abbrev pub invariant-loop-number : goal.invariant-loop-number
invariant-loop-number l = l.open + rows_from l.core.frontends l.number ≡ open_connections l.core
