use Rattle.std.proofs.Common.{◌≡◌, map, arith}
use Rattle.std.proofs.lemmas.Grind.{common_steps}
use Rattle.std.specs.List.{enumerate_from}
use Rattle.conn_model.specs.Tables.{new_table}
use Rattle.conn_tables.specs.Tables.{plain_table}
use Rattle.conn_tables.proofs.TableLemmas.{new_counts, new_tables, sound_each}
use Rattle.conn_tables.proofs.tables.Tables.new.Goals as goal

pub invariant_of-result : goal.invariant_of-result
invariant_of-result c =
    let all : map (plain_table 0) c.loop-position.stored.items ≡ map (new_table c.args.version) (enumerate_from 0 c.args.tables.now) = grind (arith, common_steps) in
    new_tables 0 c.args.version c.args.tables.now c.loop-position.stored.items all c.loop-position.invariant.each

pub returns-clause-counts : goal.returns-clause-counts
returns-clause-counts c =
    let all : map (plain_table 0) c.loop-position.stored.items ≡ map (new_table c.args.version) (enumerate_from 0 c.args.tables.now) = grind (arith, common_steps) in
    new_counts 0 c.args.version 0 c.args.tables.now c.loop-position.stored.items all (sound_each 0 0 c.loop-position.stored.items c.loop-position.invariant.each)
