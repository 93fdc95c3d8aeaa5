use Rattle.std.proofs.Common.{◌≡◌, ◌≤◌, None, ap, sym, subst, ◌∙◌, refl, arith}
use Rattle.std.specs.Prelude.{find}
use Rattle.std.specs.List.{position}
use Rattle.stick_core.specs.PlainEntries.{plain}
use Rattle.conn_tables.specs.declared.tables.StoredTable.{StoredTable}
use Rattle.conn_tables.specs.Tables.{TablesDiffer, IsStored, cur_in, is_table}
use Rattle.conn_model.proofs.Lists.{all-at, nowhere}
use Rattle.conn_tables.proofs.TableLemmas.{Found, counts_left, cur_found, cur_nowhere, found_table, on_itself, plain_left, shown_same, still_tables}
use Rattle.conn_tables.proofs.tables.Tables.release_one.Goals as goal

pub place_of-requires : goal.place_of-requires
place_of-requires c = subst TablesDiffer (sym c.as_slice.ensures.value) c.self.invariant.differ

found : (c : goal.After-release-arg-1) → Found c.into_tracking-token.result.table c.self.inside.tables.items c.in-Some-place_of.place c.index_mut.result.now
found c =
    found_table c.into_tracking-token.result.table c.self.inside.tables.items c.in-Some-place_of.place c.index_mut.result.now
    (ap (λ xs. position (is_table c.into_tracking-token.result.table) xs) (sym c.as_slice.ensures.value) ∙ sym c.place_of.ensures ∙ c.in-Some-place_of.is) c.index_mut.ensures.value

found_then : (c : goal.After-self-1) → Found c.into_tracking-token.result.table c.self.inside.tables.items c.in-Some-place_of.place c.index_mut.result.now
found_then c =
    found_table c.into_tracking-token.result.table c.self.inside.tables.items c.in-Some-place_of.place c.index_mut.result.now
    (ap (λ xs. position (is_table c.into_tracking-token.result.table) xs) (sym c.as_slice.ensures.value) ∙ sym c.place_of.ensures ∙ c.in-Some-place_of.is) c.index_mut.ensures.value

pub release-requires : goal.release-requires
release-requires c =
    let one : 1 ≤ cur_in c.into_tracking-token.result.table c.into_tracking-token.result.token c.args.self.now.tables =
    rw (c.in-Some.is, ← c.into_tracking-token.ensures, on_itself c.into_tracking-token.result) at (c.requires c.into_tracking-token.result.table c.into_tracking-token.result.token) in
    let same = ap (λ t. cur_in c.into_tracking-token.result.table c.into_tracking-token.result.token t.tables) c.self.view_is in
    let was = cur_found c.into_tracking-token.result.table c.into_tracking-token.result.token c.self.inside.tables.items c.index_mut.result.now (found c).found in
    let stored : IsStored c.self.inside.clock c.self.inside.spare c.index_mut.result.now =
    all-at (IsStored c.self.inside.clock c.self.inside.spare) c.self.inside.tables.items c.in-Some-place_of.place c.index_mut.result.now c.self.invariant.each (found c).there in
    record { clock = stored.past; tracked = omega (arith, one, same, was) }

pub unreachable-requires : goal.unreachable-requires
unreachable-requires c =
    let none : find (is_table c.into_tracking-token.result.table) c.self.inside.tables.items ≡ None =
    nowhere (is_table c.into_tracking-token.result.table) c.self.inside.tables.items
    (ap (λ xs. position (is_table c.into_tracking-token.result.table) xs) (sym c.as_slice.ensures.value) ∙ sym c.place_of.ensures ∙ c.in-None.is) in
    let one : 1 ≤ cur_in c.into_tracking-token.result.table c.into_tracking-token.result.token c.args.self.now.tables =
    rw (c.in-Some.is, ← c.into_tracking-token.ensures, on_itself c.into_tracking-token.result) at (c.requires c.into_tracking-token.result.table c.into_tracking-token.result.token) in
    let same = ap (λ t. cur_in c.into_tracking-token.result.table c.into_tracking-token.result.token t.tables) c.self.view_is in
    let zero = cur_nowhere c.into_tracking-token.result.table c.into_tracking-token.result.token c.self.inside.tables.items none in
    omega (arith, one, same, zero)

pub invariant_of-self : goal.invariant_of-self
invariant_of-self c =
    let tables = c.self.inside.tables.items in
    let stored = c.index_mut.result.now in
    let next : StoredTable = record { id = stored.id; table = stored.table; entries = c.release.new.self } in
    let was : IsStored c.self.inside.clock c.self.inside.spare stored = all-at (IsStored c.self.inside.clock c.self.inside.spare) tables c.in-Some-place_of.place stored c.self.invariant.each (found_then c).there in
    let is : IsStored c.self.inside.clock c.self.inside.spare next =
    record {
      kind = ap (λ t. t.kind) c.release.ensures.value ∙ was.kind;
      size = ap (λ t. t.size) c.release.ensures.value ∙ was.size;
      stores = ap (λ t. t.stores) c.release.ensures.value ∙ was.stores;
      expire = ap (λ t. t.expire) c.release.ensures.value ∙ was.expire;
      past = let now = ap (λ t. t.clock) c.release.ensures.value in omega (arith, now);
      sound = c.release.ensures.shown.sound;
      room = rw c.release.ensures.value was.room;
    } in
    still_tables c.self.inside.clock c.self.inside.spare c.self.inside.spare tables c.in-Some-place_of.place stored next (found_then c).there refl c.self.invariant c.self.invariant.each is

pub returns-clause-counts : goal.returns-clause-counts
returns-clause-counts c =
    let stored = c.index_mut.result.now in
    let next : StoredTable = record { id = stored.id; table = stored.table; entries = c.release.new.self } in
    rw (c.in-Some.is, ← c.into_tracking-token.ensures, ← c.self.view_is)
    (counts_left c.into_tracking-token.result c.self.inside.tables.items c.in-Some-place_of.place stored next (found_then c) refl c.release.ensures.counts)

pub returns-clause-plain : goal.returns-clause-plain
returns-clause-plain c =
    let stored = c.index_mut.result.now in
    let next : StoredTable = record { id = stored.id; table = stored.table; entries = c.release.new.self } in
    rw (c.in-Some.is, ← c.into_tracking-token.ensures, ← c.self.view_is)
    (λ counter. plain_left c.self.inside.clock (record { counter = counter; table = c.into_tracking-token.result.table; key = c.into_tracking-token.result.token }) c.self.inside.tables.items c.in-Some-place_of.place stored next
    c.self.invariant.differ (found_then c).there (found_then c).is refl refl
    (ap plain (shown_same c.self.inside.clock c.release.new.self c.release.ensures.shown (ap (λ t. t.clock) c.release.ensures.value)) ∙ c.release.ensures.plain_entries))
