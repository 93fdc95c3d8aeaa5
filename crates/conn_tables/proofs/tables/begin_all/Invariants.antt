use Rattle.std.proofs.Common.{◌≡◌, ℕ, ◌++◌, drop, map}
use Rattle.std.specs.Prelude.{filter, zip}
use Rattle.std.specs.List.{AllByRecursion}
use Rattle.conn_tables.specs.Tables.{IsStored, begun_table, is_begun, plain_table}
use Rattle.conn_tables.proofs.tables.begin_all.Given as goal

abbrev pub invariant-loop-place : goal.invariant-loop-place
invariant-loop-place l = record {
  plain : (moment : ℕ) → map (plain_table moment) l.begun.items ++ map begun_table (filter (is_begun l.version) (zip (drop l.place l.tables) (drop l.place l.ids))) ≡ map begun_table (filter (is_begun l.version) (zip l.tables l.ids));
  each : AllByRecursion (IsStored 0 l.spare) l.begun.items;
}
