use Rattle.std.proofs.Common.{◌≡◌, ◌++◌, drop, map}
use Rattle.std.specs.List.{enumerate_from}
use Rattle.std.specs.Option.{option_copied}
use Rattle.conn_model.specs.Tables.{next_id, written_tables}
use Rattle.conn_versions.proofs.opening.table_ids.Given as goal

abbrev pub invariant-loop-position : goal.invariant-loop-position
invariant-loop-position l =
    l.ids ++ map (next_id l.version (written_tables (option_copied l.before))) (enumerate_from l.position (drop l.position l.tables))
    ≡ map (next_id l.version (written_tables (option_copied l.before))) (enumerate_from 0 l.tables)
