use Rattle.std.proofs.Common.{◌≡◌, ◌≤◌, take, vec_len}
use Rattle.std.specs.List.{AllByRecursion}
use Rattle.conn_tables.specs.Tables.{AreGrown}
use Rattle.conn_tables.proofs.tables.reserve_all.Given as goal

abbrev pub invariant-loop-place : goal.invariant-loop-place
invariant-loop-place l = record {
  grown : AreGrown l.fn.tables.items l.tables.items;
  len : vec_len l.tables ≡ vec_len l.fn.tables;
  room : AllByRecursion (λ stored. l.more ≤ stored.entries.spare) (take l.place l.tables.items);
}
