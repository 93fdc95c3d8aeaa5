use Rattle.std.proofs.Common.{◌≤◌, ap, arith}
use Rattle.conn_tables.proofs.TableLemmas.{later_tables, tables_later}
use Rattle.conn_tables.proofs.tables.Tables.pass.Goals as goal

pub invariant_of-self : goal.invariant_of-self
invariant_of-self c =
    let same = ap (λ t. t.clock) c.self.view_is in
    let later : c.self.inside.clock ≤ c.args.moment = omega (arith, same, c.requires) in
    later_tables c.self.inside.clock c.args.moment c.self.inside.spare c.self.inside.tables.items later c.self.invariant

pub returns-clause-plain : goal.returns-clause-plain
returns-clause-plain c =
    let same = ap (λ t. t.clock) c.self.view_is in
    let later : c.self.inside.clock ≤ c.args.moment = omega (arith, same, c.requires) in
    rw (← c.self.view_is)
    (λ tracks counted. tables_later c.self.inside.clock c.args.moment c.self.inside.spare c.self.inside.tables.items tracks later c.self.invariant counted)
