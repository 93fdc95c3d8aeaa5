use Rattle.std.proofs.Common.{◌≤◌, sym, arith}
use Rattle.conn_tables.proofs.TableLemmas.{tables_later}
use Rattle.conn_tables.proofs.tables.Tables.clock.Goals as goal

pub returns-clause-alive : goal.returns-clause-alive
returns-clause-alive c =
    let same : c.self.inside.clock ≤ c.self.inside.clock = omega arith in
    rw (← c.self.view_is) (λ tracks counted. sym (tables_later c.self.inside.clock c.self.inside.clock c.self.inside.spare c.self.inside.tables.items tracks same c.self.invariant counted))
