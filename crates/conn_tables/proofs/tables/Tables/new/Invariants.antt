use Rattle.std.proofs.Common.{◌≡◌, ◌++◌, drop, map}
use Rattle.std.specs.List.{AllByRecursion, enumerate_from}
use Rattle.conn_model.specs.Tables.{new_table}
use Rattle.conn_tables.specs.Tables.{IsStored, plain_table}
use Rattle.conn_tables.proofs.tables.Tables.new.Given as goal

abbrev pub invariant-loop-position : goal.invariant-loop-position
invariant-loop-position l = record {
  plain : map (plain_table 0) l.stored.items ++ map (new_table l.version) (enumerate_from l.position (drop l.position l.tables)) ≡ map (new_table l.version) (enumerate_from 0 l.tables);
  each : AllByRecursion (IsStored 0 0) l.stored.items;
}
