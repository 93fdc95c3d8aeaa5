use Rattle.std.proofs.Common.{◌≡◌, Some, None, ap, sym, subst, ◌∙◌, map, arith}
use Rattle.std.specs.Prelude.{find}
use Rattle.std.specs.List.{position}
use Rattle.conn_tables.specs.declared.tables.StoredTable.{StoredTable}
use Rattle.conn_tables.specs.Tables.{AreCounted, StoredTables, TablesDiffer, cur_in, is_table, key_at, plain_table}
use Rattle.conn_model.proofs.Lists.{nowhere}
use Rattle.conn_tables.proofs.TableLemmas.{Found, counts_more, cur_found, found_table, key_nowhere, key_there, plain_more, trackers_of, tracking_tables}
use Rattle.conn_tables.proofs.tables.Tables.track.Goals as goal

pub place_of-requires : goal.place_of-requires
place_of-requires c = subst TablesDiffer (sym c.as_slice.ensures.value) c.self.invariant.differ

found : (c : goal.After-index_mut) → Found c.args.id c.self.inside.tables.items c.in-Some.place c.index_mut.result.now
found c =
    found_table c.args.id c.self.inside.tables.items c.in-Some.place c.index_mut.result.now
    (ap (λ xs. position (is_table c.args.id) xs) (sym c.as_slice.ensures.value) ∙ sym c.place_of.ensures ∙ c.in-Some.is) c.index_mut.ensures.value

found_then : (c : goal.After-self-2-1) → Found c.args.id c.self.inside.tables.items c.in-Some.place c.index_mut.result.now
found_then c =
    found_table c.args.id c.self.inside.tables.items c.in-Some.place c.index_mut.result.now
    (ap (λ xs. position (is_table c.args.id) xs) (sym c.as_slice.ensures.value) ∙ sym c.place_of.ensures ∙ c.in-Some.is) c.index_mut.ensures.value

pub unreachable-requires : goal.unreachable-requires
unreachable-requires c =
    let none : find (is_table c.args.id) c.self.inside.tables.items ≡ None =
    nowhere (is_table c.args.id) c.self.inside.tables.items (ap (λ xs. position (is_table c.args.id) xs) (sym c.as_slice.ensures.value) ∙ sym c.place_of.ensures ∙ c.in_default.is) in
    key_nowhere c.self.inside.clock c.requires.key.0 c.args.id c.self.inside.tables.items c.args.key.now c.args.key.now none
    (subst (λ (t : StoredTables). key_at c.requires.key.0 (map (plain_table t.clock) t.tables) c.args.id c.args.key.now ≡ Some c.args.key.now) (sym c.self.view_is) c.requires.key.2)

pub track-token-requires-clause-below : goal.track-token-requires-clause-below
track-token-requires-clause-below c = λ other.
    let less = c.requires.below c.args.id other in
    let same = ap (λ (t : StoredTables). cur_in c.args.id other t.tables) c.self.view_is in
    let was = cur_found c.args.id other c.self.inside.tables.items c.index_mut.result.now (found c).found in
    omega (arith, less, same, was)

pub track-token-requires-clause-key : goal.track-token-requires-clause-key
track-token-requires-clause-key c = (
  c.requires.key.0,
  trackers_of c.args.id c.self.inside.tables.items c.index_mut.result.now c.requires.key.0 (found c).found (subst (λ (t : StoredTables). AreCounted c.requires.key.0 t.tables) (sym c.self.view_is) c.requires.key.1),
  key_there c.self.inside.clock c.requires.key.0 c.args.id c.self.inside.tables.items c.index_mut.result.now c.args.key.now c.args.key.now (found c).found
      (subst (λ (t : StoredTables). key_at c.requires.key.0 (map (plain_table t.clock) t.tables) c.args.id c.args.key.now ≡ Some c.args.key.now) (sym c.self.view_is) c.requires.key.2),
)

pub invariant_of-self : goal.invariant_of-self
invariant_of-self c =
    tracking_tables c.self.inside.clock c.self.inside.spare c.self.inside.tables.items c.in-Some.place c.index_mut.result.now c.track-token.new.self (found_then c).there c.track-token.ensures.same c.track-token.ensures.sound
    c.track-token.ensures.spare c.self.invariant

pub returns-clause-plain : goal.returns-clause-plain
returns-clause-plain c =
    let same = c.track-token.ensures.same in
    rw (← c.self.view_is)
    (λ tracks counted counter.
    plain_more c.self.inside.clock tracks (record { counter = counter; table = c.args.id; key = c.args.key.now }) c.self.inside.tables.items c.in-Some.place c.index_mut.result.now c.track-token.new.self c.self.invariant.differ
    (found_then c).there (found_then c).is (ap (λ (s : StoredTable). s.id) same) (ap (λ (s : StoredTable). s.table) same)
    (c.track-token.ensures.plain tracks (trackers_of c.args.id c.self.inside.tables.items c.index_mut.result.now tracks (found_then c).found counted)))

pub returns-clause-counts : goal.returns-clause-counts
returns-clause-counts c =
    rw (← c.self.view_is)
    (counts_more (record { table = c.args.id; token = c.args.key.now }) c.self.inside.tables.items c.in-Some.place c.index_mut.result.now c.track-token.new.self (found_then c)
    (ap (λ (s : StoredTable). s.id) c.track-token.ensures.same) c.track-token.ensures.counts)
