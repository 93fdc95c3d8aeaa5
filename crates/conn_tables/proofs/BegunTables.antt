-- Tables that begin with a version.
use Rattle.std.proofs.Common.{◌≡◌, ℕ, ◌+◌, ◌<◌, Bool, true, false, cond, List, [], ◌∷◌, ◌++◌, length, map, Option, Some, None, refl, sym, ap, ◌∙◌, arith}
use Rattle.std.specs.Prelude.{◌≤◌, ◌==◌, ◌&&◌, filter, find, zip, is_none, option_map, if◌then◌else◌}
use Rattle.std.specs.List.{AllByRecursion, enumerate_from}
use Rattle.std.specs.Option.{option_map_or}
use Rattle.std.proofs.lemmas.Bool.Decides.{nat_tests}
use Rattle.addr_core.specs.declared.addr.Addr.{Addr}
use Rattle.stick_core.specs.Entries.{cur_of}
use Rattle.stick_core.specs.Listing.{passed}
use Rattle.stick_core.specs.PlainEntries.{plain}
use Rattle.plan_types.specs.declared.plan.Table.{Table}
use Rattle.plan_types.specs.declared.track.TableId.{TableId}
use Rattle.conn_model.specs.Tables.{is_new, new_table, new_tables, next_id, same_id, same_table}
use Rattle.conn_tables.specs.declared.tables.StoredTable.{StoredTable}
use Rattle.conn_tables.specs.Tables.{AreNextIds, AreTables, IsStored, TablesDiffer, begun_table, cur_in, is_begun, is_table, plain_table}
use Rattle.conn_model.proofs.Lists.{all-append, all-found, all-more}
use Rattle.conn_tables.proofs.TableLemmas.{AreSound, no_entry_at, and_false, itself}

-- Which tables begin.

same_begin : (version n : ℕ) (before : List (Table × TableId)) (tables : List Table) → AllByRecursion (λ pair. pair.1.version < version) before →
    map begun_table (filter (is_begun version) (zip tables (map (next_id version before) (enumerate_from n tables)))) ≡ map (new_table version) (filter (is_new before) (enumerate_from n tables))
same_begin version n before [] earlier = refl
same_begin version n before (t ∷ tables) earlier = by (find (λ pair. same_table pair.0 t) before) refl (same_begin version (n + 1) before tables earlier)
  where
    first : Option (Table × TableId) → TableId
    first o = option_map_or (λ id. id) (option_map (λ pair. pair.1) o) (record { version = version; position = n })

    older : (pair : Table × TableId) → find (λ pair. same_table pair.0 t) before ≡ Some pair → (pair.1.version == version) ≡ false
    older pair found = let less : pair.1.version < version = (all-found (λ pair. pair.1.version < version) (λ pair. same_table pair.0 t) before pair earlier found).0 in grind (arith, nat_tests, less)

    rest : List (Table × TableId)
    rest = zip tables (map (next_id version before) (enumerate_from (n + 1) tables))

    by : (o : Option (Table × TableId)) → find (λ pair. same_table pair.0 t) before ≡ o →
        map begun_table (filter (is_begun version) rest) ≡ map (new_table version) (filter (is_new before) (enumerate_from (n + 1) tables)) →
        map begun_table (filter (is_begun version) ((t, first (find (λ pair. same_table pair.0 t) before)) ∷ rest))
        ≡ map (new_table version) (cond (is_none (option_map (λ pair. pair.1) (find (λ pair. same_table pair.0 t) before))) ((n, t) ∷ filter (is_new before) (enumerate_from (n + 1) tables)) (filter (is_new before) (enumerate_from (n + 1) tables)))
    by None found more = rw (found, itself version) (ap (λ ts. new_table version (n, t) ∷ ts) more)
    by (Some pair) found more = rw (found, older pair found) more

pub begun_new : (moment : ℕ) (version : ℕ) (before : List (Table × TableId)) (tables : List Table) (ids : List TableId) (begun : List StoredTable) → AreNextIds version before tables ids →
    map (plain_table moment) begun ≡ map begun_table (filter (is_begun version) (zip tables ids)) → map (plain_table moment) begun ≡ map (new_table version) (filter (is_new before) (enumerate_from 0 tables))
begun_new moment version before tables ids begun next is =
    is ∙ ap (λ ids. map begun_table (filter (is_begun version) (zip tables ids))) next.next ∙ same_begin version 0 before tables next.earlier

length-next : (version n : ℕ) (before : List (Table × TableId)) (tables : List Table) → length tables ≡ length (map (next_id version before) (enumerate_from n tables))
length-next version n before [] = refl
length-next version n before (t ∷ tables) = cc (length-next version (n + 1) before tables)

pub enough_ids : (version : ℕ) (before : List (Table × TableId)) (tables : List Table) (ids : List TableId) → AreNextIds version before tables ids → length tables ≤ length ids
enough_ids version before tables ids next =
    let same : length tables ≡ length ids = length-next version 0 before tables ∙ ap length (sym next.next) in
    omega (arith, same)

-- They differ from one another and from the earlier ones, and have no entries.

-- of the version, at that position or after it, without entries
record IsBegun (moment number place : ℕ) (stored : StoredTable) : Type 0 where
  version : stored.id.version ≡ number
  position : place ≤ stored.id.position
  entries : plain (passed moment stored.entries).entries ≡ []

begun_at : (moment : ℕ) (version n : ℕ) (stored : StoredTable) (table : Table) → plain_table moment stored ≡ new_table version (n, table) → IsBegun moment version n stored
begun_at moment version n stored table is = record {
  version = ap (λ t. t.id.version) is;
  position = let at : stored.id.position ≡ n = ap (λ t. t.id.position) is in omega (arith, at);
  entries = ap (λ t. t.entries) is;
}

begun_each : (moment : ℕ) (version n : ℕ) (before : List (Table × TableId)) (tables : List Table) (begun : List StoredTable) →
    map (plain_table moment) begun ≡ map (new_table version) (filter (is_new before) (enumerate_from n tables)) → AllByRecursion (IsBegun moment version n) begun
begun_each moment version n before [] [] is = tt
begun_each moment version n before [] (s ∷ begun) is = absurd (cc)
begun_each moment version n before (t ∷ tables) begun is = by (is_new before (n, t)) begun is (begun_each moment version (n + 1) before tables)
  where
    later : (s : StoredTable) → IsBegun moment version (n + 1) s → IsBegun moment version n s
    later s is = record { version = is.version; position = let at = is.position in omega (arith, at); entries = is.entries }

    by : (b : Bool) (begun : List StoredTable) → map (plain_table moment) begun ≡ map (new_table version) (cond b ((n, t) ∷ filter (is_new before) (enumerate_from (n + 1) tables)) (filter (is_new before) (enumerate_from (n + 1) tables))) →
        ((begun : List StoredTable) → map (plain_table moment) begun ≡ map (new_table version) (filter (is_new before) (enumerate_from (n + 1) tables)) → AllByRecursion (IsBegun moment version (n + 1)) begun) →
        AllByRecursion (IsBegun moment version n) begun
    by false begun is rest = all-more (IsBegun moment version (n + 1)) (IsBegun moment version n) begun later (rest begun is)
    by true [] is rest = absurd (cc)
    by true (s ∷ begun) is rest =
        let first : plain_table moment s ≡ new_table version (n, t) = cc in
        let others : map (plain_table moment) begun ≡ map (new_table version) (filter (is_new before) (enumerate_from (n + 1) tables)) = cc in
        (begun_at moment version n s t first, all-more (IsBegun moment version (n + 1)) (IsBegun moment version n) begun later (rest begun others))

begun_differ : (moment : ℕ) (version n : ℕ) (before : List (Table × TableId)) (tables : List Table) (begun : List StoredTable) →
    map (plain_table moment) begun ≡ map (new_table version) (filter (is_new before) (enumerate_from n tables)) → TablesDiffer begun
begun_differ moment version n before [] [] is = tt
begun_differ moment version n before [] (s ∷ begun) is = absurd (cc)
begun_differ moment version n before (t ∷ tables) begun is = by (is_new before (n, t)) begun is (begun_differ moment version (n + 1) before tables)
  where
    other : (id : TableId) → id.position ≡ n → (s : StoredTable) → IsBegun moment version (n + 1) s → same_id s.id id ≡ false
    other id at s is =
        let above : n + 1 ≤ s.id.position = is.position in
        let differs : (s.id.position == id.position) ≡ false = grind (arith, nat_tests, above, at) in
        and_false (s.id.version == id.version) (s.id.position == id.position) differs

    by : (b : Bool) (begun : List StoredTable) → map (plain_table moment) begun ≡ map (new_table version) (cond b ((n, t) ∷ filter (is_new before) (enumerate_from (n + 1) tables)) (filter (is_new before) (enumerate_from (n + 1) tables))) →
        ((begun : List StoredTable) → map (plain_table moment) begun ≡ map (new_table version) (filter (is_new before) (enumerate_from (n + 1) tables)) → TablesDiffer begun) →
        TablesDiffer begun
    by false begun is rest = rest begun is
    by true [] is rest = absurd (cc)
    by true (s ∷ begun) is rest =
        let first : plain_table moment s ≡ new_table version (n, t) = cc in
        let others : map (plain_table moment) begun ≡ map (new_table version) (filter (is_new before) (enumerate_from (n + 1) tables)) = cc in
        let at : s.id.position ≡ n = ap (λ t. t.id.position) first in
        (all-more (IsBegun moment version (n + 1)) (λ o. same_id o.id s.id ≡ false) begun (other s.id at) (begun_each moment version (n + 1) before tables begun others), rest begun others)

-- With the tables that there are.

joined_differ : (moment : ℕ) (version : ℕ) (tables begun : List StoredTable) → AllByRecursion (λ stored. stored.id.version < version) tables → TablesDiffer tables →
    AllByRecursion (IsBegun moment version 0) begun → TablesDiffer begun → TablesDiffer (tables ++ begun)
joined_differ moment version [] begun earlier differ are begun_apart = begun_apart
joined_differ moment version (t ∷ tables) begun earlier differ are begun_apart = (
  all-append (λ o. same_id o.id t.id ≡ false) tables begun differ.0 (all-more (IsBegun moment version 0) (λ o. same_id o.id t.id ≡ false) begun other are),
  joined_differ moment version tables begun earlier.1 differ.1 are begun_apart,
)
  where
    other : (s : StoredTable) → IsBegun moment version 0 s → same_id s.id t.id ≡ false
    other s is =
        let its : s.id.version ≡ version = is.version in
        let less : t.id.version < version = earlier.0 in
        let differs : (s.id.version == t.id.version) ≡ false = grind (arith, nat_tests, its, less) in
        ap (λ b. b && (s.id.position == t.id.position)) differs

pub joined_tables : (moment : ℕ) (version spare : ℕ) (before : List (Table × TableId)) (tables : List Table) (kept begun : List StoredTable) → AllByRecursion (λ stored. stored.id.version < version) kept → AreTables moment spare kept →
    map (plain_table moment) begun ≡ map (new_table version) (filter (is_new before) (enumerate_from 0 tables)) → AllByRecursion (IsStored moment spare) begun → AreTables moment spare (kept ++ begun)
joined_tables moment version spare before tables kept begun earlier known is each = record {
  differ = joined_differ moment version kept begun earlier known.differ (begun_each moment version 0 before tables begun is) (begun_differ moment version 0 before tables begun is);
  each = all-append (IsStored moment spare) kept begun known.each each;
}

pub joined_plain : (moment : ℕ) (version : ℕ) (before : List (Table × TableId)) (tables : List Table) (kept begun : List StoredTable) →
    map (plain_table moment) begun ≡ map (new_table version) (filter (is_new before) (enumerate_from 0 tables)) → map (plain_table moment) (kept ++ begun) ≡ map (plain_table moment) kept ++ new_tables version before tables
joined_plain moment version before tables [] begun is = is
joined_plain moment version before tables (t ∷ kept) begun is = ap (λ ts. plain_table moment t ∷ ts) (joined_plain moment version before tables kept begun is)

no_cur : (moment : ℕ) (version : ℕ) (id : TableId) (key : Addr) (begun : List StoredTable) → AllByRecursion (IsBegun moment version 0) begun → AllByRecursion AreSound begun → cur_in id key begun ≡ 0
no_cur moment version id key [] are sound = refl
no_cur moment version id key (s ∷ begun) are sound = by (is_table id s) (no_cur moment version id key begun are.1 sound.1)
  where
    by : (b : Bool) → cur_in id key begun ≡ 0 → option_map_or (λ stored. cur_of key stored.entries.entries) (if b then Some s else find (is_table id) begun) 0 ≡ 0
    by true more = no_entry_at moment key s.entries sound.0 are.0.entries
    by false more = more

joined_cur : (moment : ℕ) (version : ℕ) (id : TableId) (key : Addr) (tables begun : List StoredTable) → AllByRecursion (IsBegun moment version 0) begun → AllByRecursion AreSound begun → cur_in id key (tables ++ begun) ≡ cur_in id key tables
joined_cur moment version id key [] begun are sound = no_cur moment version id key begun are sound
joined_cur moment version id key (t ∷ tables) begun are sound = by (is_table id t) (joined_cur moment version id key tables begun are sound)
  where
    by : (b : Bool) → cur_in id key (tables ++ begun) ≡ cur_in id key tables →
        option_map_or (λ stored. cur_of key stored.entries.entries) (if b then Some t else find (is_table id) (tables ++ begun)) 0
        ≡ option_map_or (λ stored. cur_of key stored.entries.entries) (if b then Some t else find (is_table id) tables) 0
    by true more = refl
    by false more = more

pub joined_counts : (moment : ℕ) (version : ℕ) (before : List (Table × TableId)) (tables : List Table) (kept begun : List StoredTable) →
    map (plain_table moment) begun ≡ map (new_table version) (filter (is_new before) (enumerate_from 0 tables)) → AllByRecursion AreSound begun → (id : TableId) (key : Addr) → cur_in id key (kept ++ begun) ≡ cur_in id key kept
joined_counts moment version before tables kept begun is sound id key = joined_cur moment version id key kept begun (begun_each moment version 0 before tables begun is) sound
