use Rattle.std.proofs.Common.{ap, arith}
use Rattle.conn_model.specs.Counts.{total}
use Rattle.conn_rows.specs.Value.{row_on, row_slots}
use Rattle.conn_rows.proofs.frontend.FrontendState.end.Goals as goal

pub returns-clause-tables : goal.returns-clause-tables
returns-clause-tables c = λ id key.
    let all = c.loop-row.invariant.gone id key in
    let none = ap (total (row_on id key)) c.in_default.ensures.none in
    omega (arith, all, none)

pub returns-clause-kept : goal.returns-clause-kept
returns-clause-kept c = λ place.
    let all = c.loop-row.invariant.back place in
    let none = ap (total (row_slots place)) c.in_default.ensures.none in
    omega (arith, all, none)
