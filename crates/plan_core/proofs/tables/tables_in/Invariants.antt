use Rattle.std.proofs.Common.{◌≡◌, ◌++◌, ◌≤◌, drop, length}
use Rattle.plan_core.specs.Fields.{tables_in}
use Rattle.plan_core.proofs.tables.tables_in.Given as goal

abbrev pub invariant-loop-proxy : goal.invariant-loop-proxy
invariant-loop-proxy l = (l.tables ++ tables_in (drop l.proxy-index l.all) ≡ tables_in l.all) × (length l.tables ≤ l.proxy-index)
