use Rattle.std.proofs.Common.{◌≡◌, map, take}
use Rattle.conn_tables.specs.Tables.{plain_table}
use Rattle.conn_tables.proofs.tables.Tables.plain.Given as goal

abbrev pub invariant-loop-stored : goal.invariant-loop-stored
invariant-loop-stored l = l.states ≡ map (plain_table l.self-inside.clock) (take l.stored-index l.stored-items)
