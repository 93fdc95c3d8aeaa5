use Rattle.conn_tables.proofs.Forgotten.{counts_stay, filter_tables, plain_listed}
use Rattle.conn_tables.proofs.tables.Tables.forget.Goals as goal

pub invariant_of-self : goal.invariant_of-self
invariant_of-self c = rw c.keep_listed.ensures (filter_tables c.self.inside.clock c.self.inside.spare c.args.versions.now c.self.inside.tables.items c.self.invariant)

pub returns-clause-plain : goal.returns-clause-plain
returns-clause-plain c = rw (c.keep_listed.ensures, ← c.self.view_is) (plain_listed c.self.inside.clock c.args.versions.now c.self.inside.tables.items)

pub returns-clause-counts : goal.returns-clause-counts
returns-clause-counts c = rw (c.keep_listed.ensures, ← c.self.view_is) (counts_stay c.args.versions.now c.self.inside.tables.items (rw (← c.self.view_is) at c.requires))
