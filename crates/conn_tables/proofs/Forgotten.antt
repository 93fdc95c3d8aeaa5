-- Tables that are forgotten.
use Rattle.std.proofs.Common.{◌≡◌, ℕ, Bool, true, false, cond, List, [], ◌∷◌, map, Option, Some, refl, sym, ap, ◌∙◌}
use Rattle.std.specs.Prelude.{filter, find, if◌then◌else◌}
use Rattle.std.specs.Option.{option_map_or}
use Rattle.std.proofs.lemmas.Bool.{false≢true}
use Rattle.addr_core.specs.declared.addr.Addr.{Addr}
use Rattle.stick_core.specs.Entries.{cur_of}
use Rattle.plan_types.specs.declared.track.TableId.{TableId}
use Rattle.conn_model.specs.declared.plain.Version.{Version}
use Rattle.conn_model.specs.Tables.{is_listed_by, same_id}
use Rattle.conn_tables.specs.declared.tables.StoredTable.{StoredTable}
use Rattle.conn_tables.specs.Tables.{AreTables, IsStored, TablesDiffer, cur_in, is_listed_in, is_table, plain_table}
use Rattle.conn_model.proofs.Lists.{all-filter}
use Rattle.conn_tables.proofs.TableLemmas.{same_id-is}

abbrev pub listed_tables : List Version → List StoredTable → List StoredTable
listed_tables versions tables = filter (λ stored. is_listed_in versions stored.id) tables

pub plain_listed : (moment : ℕ) (versions : List Version) (tables : List StoredTable) → map (plain_table moment) (listed_tables versions tables) ≡ filter (is_listed_by versions) (map (plain_table moment) tables)
plain_listed moment versions [] = refl
plain_listed moment versions (t ∷ tables) = by (is_listed_in versions t.id) (plain_listed moment versions tables)
  where
    by : (b : Bool) → map (plain_table moment) (listed_tables versions tables) ≡ filter (is_listed_by versions) (map (plain_table moment) tables) →
        map (plain_table moment) (cond b (t ∷ listed_tables versions tables) (listed_tables versions tables))
        ≡ cond b (plain_table moment t ∷ filter (is_listed_by versions) (map (plain_table moment) tables)) (filter (is_listed_by versions) (map (plain_table moment) tables))
    by true more = ap (λ ts. plain_table moment t ∷ ts) more
    by false more = more

-- They differ still.

filter_differ : (test : StoredTable → Bool) (tables : List StoredTable) → TablesDiffer tables → TablesDiffer (filter test tables)
filter_differ test [] differ = tt
filter_differ test (t ∷ tables) differ = by (test t) (filter_differ test tables differ.1)
  where
    by : (b : Bool) → TablesDiffer (filter test tables) → TablesDiffer (cond b (t ∷ filter test tables) (filter test tables))
    by true more = (all-filter (λ o. same_id o.id t.id ≡ false) test tables differ.0, more)
    by false more = more

pub filter_tables : (moment : ℕ) (spare : ℕ) (versions : List Version) (tables : List StoredTable) → AreTables moment spare tables → AreTables moment spare (listed_tables versions tables)
filter_tables moment spare versions tables known = record {
  differ = filter_differ (λ stored. is_listed_in versions stored.id) tables known.differ;
  each = all-filter (IsStored moment spare) (λ stored. is_listed_in versions stored.id) tables known.each;
}

-- Who tracks a key.

abbrev cur_some : Addr → Option StoredTable → ℕ
cur_some key o = option_map_or (λ stored. cur_of key stored.entries.entries) o 0

-- of a table that is listed
listed_cur : (versions : List Version) (id : TableId) (key : Addr) (tables : List StoredTable) → is_listed_in versions id ≡ true → cur_in id key (listed_tables versions tables) ≡ cur_in id key tables
listed_cur versions id key [] listed = refl
listed_cur versions id key (t ∷ tables) listed = by (is_table id t) refl (is_listed_in versions t.id) refl (listed_cur versions id key tables listed)
  where
    by : (s : Bool) → is_table id t ≡ s → (b : Bool) → is_listed_in versions t.id ≡ b → cur_in id key (listed_tables versions tables) ≡ cur_in id key tables →
        cur_in id key (cond b (t ∷ listed_tables versions tables) (listed_tables versions tables)) ≡ cur_some key (if s then Some t else find (is_table id) tables)
    by true same true is more = rw same refl
    by true same false is more = absurd (false≢true (sym is ∙ ap (is_listed_in versions) (same_id-is t.id id same) ∙ listed))
    by false same true is more = rw same more
    by false same false is more = more

-- of one that is not
unlisted_cur : (versions : List Version) (id : TableId) (key : Addr) (tables : List StoredTable) → is_listed_in versions id ≡ false → cur_in id key (listed_tables versions tables) ≡ 0
unlisted_cur versions id key [] unlisted = refl
unlisted_cur versions id key (t ∷ tables) unlisted = by (is_table id t) refl (is_listed_in versions t.id) refl (unlisted_cur versions id key tables unlisted)
  where
    by : (s : Bool) → is_table id t ≡ s → (b : Bool) → is_listed_in versions t.id ≡ b → cur_in id key (listed_tables versions tables) ≡ 0 →
        cur_in id key (cond b (t ∷ listed_tables versions tables) (listed_tables versions tables)) ≡ 0
    by true same true is more = absurd (false≢true (sym unlisted ∙ ap (is_listed_in versions) (sym (same_id-is t.id id same)) ∙ is))
    by false same true is more = rw same more
    by s same false is more = more

pub counts_stay : (versions : List Version) (tables : List StoredTable) → ((id : TableId) → is_listed_in versions id ≡ false → (key : Addr) → cur_in id key tables ≡ 0) →
    (id : TableId) (key : Addr) → cur_in id key (listed_tables versions tables) ≡ cur_in id key tables
counts_stay versions tables idle id key = by (is_listed_in versions id) refl
  where
    by : (b : Bool) → is_listed_in versions id ≡ b → cur_in id key (listed_tables versions tables) ≡ cur_in id key tables
    by true listed = listed_cur versions id key tables listed
    by false unlisted = unlisted_cur versions id key tables unlisted ∙ sym (idle id unlisted key)
