use Rattle.std.proofs.Common.{◌≡◌, ◌++◌, ◌<◌, Bool, true, false, List, map, Result, Ok, Err, refl, ap, ◌∙◌, arith}
use Rattle.std.specs.Prelude.{OnOk, is_ok, if◌then◌else◌}
use Rattle.std.specs.List.{AllByRecursion}
use Rattle.addr_core.specs.declared.addr.Addr.{Addr}
use Rattle.plan_types.specs.declared.plan.Table as plans
use Rattle.plan_types.specs.declared.track.TableId.{TableId}
use Rattle.conn_model.specs.Tables.{new_tables}
use Rattle.conn_tables.specs.Tables.{AreNextIds, AreTables, StoredTables, cur_in, plain_table}
use Rattle.conn_tables.proofs.BegunTables.{begun_new, enough_ids, joined_counts, joined_plain, joined_tables}
use Rattle.conn_tables.proofs.TableLemmas.{later_each, sound_each}
use Rattle.conn_tables.proofs.tables.Tables.begin.Goals as goal

pub begin_all-requires : goal.begin_all-requires
begin_all-requires c = enough_ids c.args.version c.requires.next.0 c.args.tables.now c.args.ids.now c.requires.next.1

pub invariant_of-self : goal.invariant_of-self
invariant_of-self c = rw c.append.ensures.items (by (is_ok c.append.result))
  where
    earlier : AllByRecursion (λ stored. stored.id.version < c.args.version) c.self.inside.tables.items
    earlier = rw (← c.self.view_is) at c.requires.earlier

    joined : AreTables c.self.inside.clock c.self.inside.spare (c.self.inside.tables.items ++ c.in_ok-begun.begun.items)
    joined =
        joined_tables c.self.inside.clock c.args.version c.self.inside.spare c.requires.next.0 c.args.tables.now c.self.inside.tables.items c.in_ok-begun.begun.items earlier c.self.invariant
        (begun_new c.self.inside.clock c.args.version c.requires.next.0 c.args.tables.now c.args.ids.now c.in_ok-begun.begun.items c.requires.next.1 (c.in_ok-begun.ensures.plain c.self.inside.clock)) (later_each 0 c.self.inside.clock c.self.inside.spare c.in_ok-begun.begun.items (omega arith) c.in_ok-begun.ensures.each)

    by : (b : Bool) → AreTables c.self.inside.clock c.self.inside.spare (if b then c.self.inside.tables.items ++ c.in_ok-begun.begun.items else c.self.inside.tables.items)
    by true = joined
    by false = c.self.invariant

pub returns-clause-ok : goal.returns-clause-ok
returns-clause-ok c = by c.append.result c.append.ensures.items
  where
    by : {E : Type 0} (r : Result (Unit {0}) E) → c.append.new.self.items ≡ (if is_ok r then c.self.inside.tables.items ++ c.in_ok-begun.begun.items else c.self.inside.tables.items) →
        OnOk r ((before : List (plans.Table × TableId)) → AreNextIds c.args.version before c.args.tables.now c.args.ids.now →
        map (plain_table c.self.inside.clock) c.append.new.self.items ≡ map (plain_table c.args.self.now.clock) c.args.self.now.tables ++ new_tables c.args.version before c.args.tables.now)
    by (Ok _) items = λ before next.
        ap (map (plain_table c.self.inside.clock)) items
        ∙ joined_plain c.self.inside.clock c.args.version before c.args.tables.now c.self.inside.tables.items c.in_ok-begun.begun.items
        (begun_new c.self.inside.clock c.args.version before c.args.tables.now c.args.ids.now c.in_ok-begun.begun.items next (c.in_ok-begun.ensures.plain c.self.inside.clock))
        ∙ ap (λ (t : StoredTables). map (plain_table t.clock) t.tables ++ new_tables c.args.version before c.args.tables.now) c.self.view_is
    by (Err _) items = tt

pub returns-clause-counts : goal.returns-clause-counts
returns-clause-counts c = rw (c.append.ensures.items, ← c.self.view_is) (λ id key. by (is_ok c.append.result) id key)
  where
    by : (b : Bool) (id : TableId) (key : Addr) → cur_in id key (if b then c.self.inside.tables.items ++ c.in_ok-begun.begun.items else c.self.inside.tables.items) ≡ cur_in id key c.self.inside.tables.items
    by true id key =
        joined_counts c.self.inside.clock c.args.version c.requires.next.0 c.args.tables.now c.self.inside.tables.items c.in_ok-begun.begun.items
        (begun_new c.self.inside.clock c.args.version c.requires.next.0 c.args.tables.now c.args.ids.now c.in_ok-begun.begun.items c.requires.next.1 (c.in_ok-begun.ensures.plain c.self.inside.clock))
        (sound_each 0 c.self.inside.spare c.in_ok-begun.begun.items c.in_ok-begun.ensures.each) id key
    by false id key = refl
