use Rattle.std.proofs.Common.{map, ap, ◌∙◌}
use Rattle.conn_tables.specs.Tables.{cur_in, plain_table}
use Rattle.conn_tables.proofs.TableLemmas.{grown_cur, grown_plain, grown_tables, room_tables}
use Rattle.conn_tables.proofs.tables.Tables.reserve.Goals as goal

pub invariant_of-self : goal.invariant_of-self
invariant_of-self c = grown_tables c.self.inside.clock c.self.inside.spare c.self.inside.tables.items c.reserve_all.new.tables.items c.reserve_all.ensures.grown c.self.invariant

pub invariant_of-self-2 : goal.invariant_of-self-2
invariant_of-self-2 c =
    room_tables c.self.inside.clock c.self.inside.spare c.saturating_add-room.result c.reserve_all.new.tables.items
    (grown_tables c.self.inside.clock c.self.inside.spare c.self.inside.tables.items c.reserve_all.new.tables.items c.reserve_all.ensures.grown c.self.invariant) c.in_ok-reserve_all.ensures.room

pub returns-in_err-reserve_all-clause-plain : goal.returns-in_err-reserve_all-clause-plain
returns-in_err-reserve_all-clause-plain c = grown_plain c.self.inside.clock c.self.inside.tables.items c.reserve_all.new.tables.items c.reserve_all.ensures.grown ∙ ap (λ t. map (plain_table t.clock) t.tables) c.self.view_is

pub returns-in_err-reserve_all-clause-counts : goal.returns-in_err-reserve_all-clause-counts
returns-in_err-reserve_all-clause-counts c = λ id key. grown_cur c.self.inside.tables.items c.reserve_all.new.tables.items c.reserve_all.ensures.grown id key ∙ ap (λ t. cur_in id key t.tables) c.self.view_is

pub returns-clause-plain : goal.returns-clause-plain
returns-clause-plain c = grown_plain c.self.inside.clock c.self.inside.tables.items c.reserve_all.new.tables.items c.reserve_all.ensures.grown ∙ ap (λ t. map (plain_table t.clock) t.tables) c.self.view_is

pub returns-clause-counts : goal.returns-clause-counts
returns-clause-counts c = λ id key. grown_cur c.self.inside.tables.items c.reserve_all.new.tables.items c.reserve_all.ensures.grown id key ∙ ap (λ t. cur_in id key t.tables) c.self.view_is
