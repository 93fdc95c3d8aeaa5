use Rattle.std.proofs.Common.{◌≡◌, ◌+◌, drop, length}
use Rattle.conn_model.specs.Counts.{total}
use Rattle.conn_model.specs.declared.plain.FrontendRows.{FrontendRows}
use Rattle.audit_core.proofs.auditor.count_open.Given as goal

abbrev pub invariant-loop-own : goal.invariant-loop-own
invariant-loop-own l = l.open + total (λ (own : FrontendRows). length own.rows) (drop l.own-index l.frontends) ≡ total (λ (own : FrontendRows). length own.rows) l.frontends
