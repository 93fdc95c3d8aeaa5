use Rattle.std.proofs.Common.{◌≡◌, List, length}
use Rattle.std.specs.List.{list_any}
use Rattle.conf_line.specs.declared.statement.TableOption.{TableOption}
use Rattle.conf_line.specs.Sound.{IsSoundSize}
use Rattle.conf_line.specs.Words.{last_of, after}
use Rattle.conf_line.specs.Tables.{table_options, option_keys, option_size, option_expire, stores_cur, stores_cnt, has_repeat}
use Rattle.conf_line.proofs.table.all_options.Given as goal

abbrev pub invariant-loop-rest : goal.invariant-loop-rest
invariant-loop-rest l =
    (all : List TableOption) × (after all (table_options l.rest) ≡ table_options l.words) × (l.options.keys ≡ last_of option_keys all) × (l.options.size ≡ last_of option_size all) ×
    (l.options.stores.cur ≡ list_any stores_cur all) × (l.options.stores.cnt ≡ list_any stores_cnt all) × (l.options.expire ≡ last_of option_expire all) × (l.options.repeats ≡ has_repeat all) × IsSoundSize l.options.size

abbrev pub decreases-loop-rest : goal.decreases-loop-rest
decreases-loop-rest l = length l.rest
