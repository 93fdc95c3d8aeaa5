-- Tables, as keys are tracked in them and trackings end.
use Rattle.std.proofs.Common.{◌≡◌, ℕ, zero, suc, ◌+◌, ◌<◌, Bool, true, false, cond, List, [], ◌∷◌, ◌++◌, length, map, set, get_or, Option, Some, None, refl, sym, ap, subst, ◌∙◌, arith}
use Rattle.std.specs.Prelude.{◌≤◌, ◌-◌, option_and_then, find, slice_get, option_map, ◌==◌, ◌&&◌, if◌then◌else◌}
use Rattle.std.specs.List.{list_any, AllByRecursion, enumerate_from, position, position_or_len}
use Rattle.std.specs.Option.{option_map_or}
use Rattle.std.proofs.lemmas.Bool.{false≢true}
use Rattle.std.proofs.lemmas.Bool.Decides.{nat_tests}
use Rattle.std.proofs.lemmas.List.{length-map}
use Rattle.std.proofs.lemmas.List.Folds.{find-set, find_past}
use Rattle.std.proofs.lemmas.Option.{get_or_from_slice_get, slice_get_read}
use Rattle.addr_core.specs.declared.addr.Addr.{Addr}
use Rattle.addr_core.specs.Same.{same_addr}
use Rattle.stick_core.specs.declared.entries.StickEntry.{StickEntry}
use Rattle.stick_core.specs.declared.entries.PlainEntry.{PlainEntry}
use Rattle.stick_core.specs.Entries.{cur_of, is_gone, living}
use Rattle.stick_core.specs.PlainEntries.{AreTrackers, plain, plain_entry, touched, tracked_key, trackings_of, with_tracking, alive}
use Rattle.list_core.proofs.Items.{one_item}
use Rattle.stick_core.proofs.LivingLemmas.{alive-later, cur_of-living, length-living, living-all, living-for_ever}
use Rattle.stick_core.specs.Listing.{passed, IsShown, IsSound, Listing}
use Rattle.list_core.proofs.PlaceLemmas.{find-passes}
use Rattle.addr_core.proofs.SameLemmas.{same_addr-refl}
use Rattle.plan_types.specs.declared.plan.Table.{Table}
use Rattle.plan_types.specs.declared.track.TableId.{TableId}
use Rattle.plan_types.specs.declared.track.Track.{Track}
use Rattle.conn_model.specs.declared.plain.TableState.{TableState}
use Rattle.conn_model.specs.Counts.{HasInMemory}
use Rattle.conn_model.specs.Tables.{new_table, same_id, table_alive, table_at, tables_alive, trackers, without_track, without_tracks, with_track}
use Rattle.conn_tables.specs.declared.tables.StoredTable.{StoredTable}
use Rattle.conn_tables.specs.Tables.{AreCounted, AreGrown, AreTables, IsGrown, IsStored, TablesDiffer, cur_in, is_table, key_at, plain_table, table_key}
use Rattle.conn_tables.specs.declared.tracking.Tracking.{Tracking}
use Rattle.conn_tables.specs.Tracks.{counter_on}
use Rattle.conn_model.proofs.Lists.{all-at, all-found, found_there, place_is, position_within, all-both, all-more}
use Rattle.conn_tables.proofs.PlaceLemmas.{all_set, position-only}

-- Incarnations.

same_of : (m n : ℕ) → (m == n) ≡ true → m ≡ n
same_of m n is = grind (arith, nat_tests)

pub itself : (n : ℕ) → (n == n) ≡ true
itself n = grind (arith, nat_tests)

pub same_id-is : (a b : TableId) → same_id a b ≡ true → a ≡ b
same_id-is a b is = by (a.version == b.version) refl (a.position == b.position) refl is
  where
    by : (v : Bool) → (a.version == b.version) ≡ v → (p : Bool) → (a.position == b.position) ≡ p → (v && p) ≡ true → a ≡ b
    by true versions true positions is =
        let version = same_of a.version b.version versions in
        let position = same_of a.position b.position positions in
        ap (λ n. record { version = n; position = a.position }) version ∙ ap (λ n. record { version = b.version; position = n }) position
    by true versions false positions is = absurd (cc)
    by false versions p positions is = absurd (cc)

pub same_id-refl : (a : TableId) → same_id a a ≡ true
same_id-refl a = rw (itself a.version, itself a.position) refl

differ_sym : (a b : TableId) → same_id a b ≡ false → same_id b a ≡ false
differ_sym a b differ = by (same_id b a) refl
  where
    by : (t : Bool) → same_id b a ≡ t → t ≡ false
    by true is = absurd (let one = same_id-is b a is in let wrong : same_id a a ≡ false = rw one at differ in let right = same_id-refl a in cc (wrong, right))
    by false is = refl

pub and_false : (a b : Bool) → b ≡ false → (a && b) ≡ false
and_false true b is = is
and_false false b is = refl

-- A table found by its place.

pub on_itself : (tracking : Tracking) → counter_on tracking.table tracking.token (Some tracking) ≡ 1
on_itself tracking = rw (same_id-refl tracking.table, same_addr-refl tracking.token) refl

-- the table at the place of its incarnation
pub record Found (id : TableId) (tables : List StoredTable) (n : ℕ) (stored : StoredTable) : Type 0 where
  pub there : slice_get tables n ≡ Some stored
  pub found : find (is_table id) tables ≡ Some stored
  pub is : stored.id ≡ id
  pub place : n ≡ position_or_len (is_table id) tables
  pub within : n < length tables

pub found_table : (id : TableId) (tables : List StoredTable) (n : ℕ) (stored : StoredTable) → position (is_table id) tables ≡ Some n → stored ≡ get_or tables n stored → Found id tables n stored
found_table id tables n stored at value =
    let within = position_within (is_table id) tables n at in
    let there : slice_get tables n ≡ Some stored = slice_get_read tables (length tables) n stored refl within value in
    let found : find (is_table id) tables ≡ Some stored = found_there (is_table id) tables n at ∙ there in
    record {
      there = there;
      found = found;
      is = same_id-is stored.id id (find-passes (is_table id) tables stored found);
      place = place_is (is_table id) tables n at;
      within = within;
    }

-- how many track a key in the table that is found
pub cur_found : (id : TableId) (key : Addr) (tables : List StoredTable) (stored : StoredTable) → find (is_table id) tables ≡ Some stored → cur_in id key tables ≡ cur_of key stored.entries.entries
cur_found id key tables stored found = ap (λ o. option_map_or (λ stored. cur_of key stored.entries.entries) o 0) found

pub cur_nowhere : (id : TableId) (key : Addr) (tables : List StoredTable) → find (is_table id) tables ≡ None → cur_in id key tables ≡ 0
cur_nowhere id key tables none = ap (λ o. option_map_or (λ stored. cur_of key stored.entries.entries) o 0) none

-- a table changed: it is found as it is now, and the others as they were
pub cur_here : (id : TableId) (key : Addr) (tables : List StoredTable) (n : ℕ) (stored next : StoredTable) → Found id tables n stored → next.id ≡ stored.id → cur_in id key (set tables n next) ≡ cur_of key next.entries.entries
cur_here id key tables n stored next at same =
    let passes : is_table id next ≡ true = ap (λ i. same_id i id) (same ∙ at.is) ∙ same_id-refl id in
    cur_found id key (set tables n next) next (find-set (is_table id) tables n next at.place at.within passes)

pub cur_elsewhere : (id other : TableId) (key : Addr) (tables : List StoredTable) (n : ℕ) (stored next : StoredTable) → Found id tables n stored → next.id ≡ stored.id → same_id id other ≡ false →
    cur_in other key (set tables n next) ≡ cur_in other key tables
cur_elsewhere id other key tables n stored next at same differ =
    let old : is_table other stored ≡ false = ap (λ i. same_id i other) at.is ∙ differ in
    let now : is_table other next ≡ false = ap (λ i. same_id i other) (same ∙ at.is) ∙ differ in
    let read : get_or tables n stored ≡ stored = get_or_from_slice_get tables n stored stored at.there in
    ap (λ o. option_map_or (λ stored. cur_of key stored.entries.entries) o 0) (find_past (is_table other) tables n next stored (ap (is_table other) read ∙ old) now)

-- a tracking ends
pub counts_left : (tracking : Tracking) (tables : List StoredTable) (n : ℕ) (stored next : StoredTable) → Found tracking.table tables n stored → next.id ≡ stored.id →
    ((key : Addr) → cur_of key next.entries.entries + trackings_of key (Some tracking.token) ≡ cur_of key stored.entries.entries) →
    (other : TableId) (key : Addr) → cur_in other key (set tables n next) + counter_on other key (Some tracking) ≡ cur_in other key tables
counts_left tracking tables n stored next at same counts other key = by (same_id tracking.table other) refl
  where
    by : (b : Bool) → same_id tracking.table other ≡ b → cur_in other key (set tables n next) + cond (b && same_addr tracking.token key) 1 0 ≡ cur_in other key tables
    by false differ = let past = cur_elsewhere tracking.table other key tables n stored next at same differ in omega (arith, past)
    by true one =
        let is = cur_here tracking.table key tables n stored next at same in
        let was = cur_found tracking.table key tables stored at.found in
        let less = counts key in
        rw (← same_id-is tracking.table other one) (omega (arith, is, was, less))

-- Tables that differ.

not_there : (id : TableId) (tables : List StoredTable) (n : ℕ) (stored : StoredTable) → AllByRecursion (λ other. same_id other.id id ≡ false) tables → slice_get tables n ≡ Some stored → same_id stored.id id ≡ false
not_there id [] n stored differ there = absurd (cc)
not_there id (t ∷ tables) zero stored differ there = let same : t ≡ stored = cc in ap (λ t. same_id t.id id) (sym same) ∙ differ.0
not_there id (t ∷ tables) (suc n) stored differ there = not_there id tables n stored differ.1 there

-- the table of an incarnation changed, where each table is another
none_changed : (moment : ℕ) (id : TableId) (change : TableState → TableState) (tables : List StoredTable) → AllByRecursion (λ other. same_id other.id id ≡ false) tables →
    map (λ t. if same_id t.id id then change t else t) (map (plain_table moment) tables) ≡ map (plain_table moment) tables
none_changed moment id change [] differ = refl
none_changed moment id change (t ∷ tables) differ = rw differ.0 (ap (λ ts. plain_table moment t ∷ ts) (none_changed moment id change tables differ.1))

-- and where it is one of them
pub one_changed : (moment : ℕ) (id : TableId) (change : TableState → TableState) (tables : List StoredTable) (n : ℕ) (stored next : StoredTable) → TablesDiffer tables → slice_get tables n ≡ Some stored → stored.id ≡ id →
    plain_table moment next ≡ change (plain_table moment stored) → map (plain_table moment) (set tables n next) ≡ map (λ t. if same_id t.id id then change t else t) (map (plain_table moment) tables)
one_changed moment id change [] n stored next differ there of now = absurd (cc)
one_changed moment id change (t ∷ tables) zero stored next differ there of now =
    let first : t ≡ stored = cc in
    let its : t.id ≡ id = ap (λ t. t.id) first ∙ of in
    let here : same_id t.id id ≡ true = ap (λ i. same_id i id) its ∙ same_id-refl id in
    let rest : map (λ t. if same_id t.id id then change t else t) (map (plain_table moment) tables) ≡ map (plain_table moment) tables =
    none_changed moment id change tables (subst (λ i. AllByRecursion (λ other. same_id other.id i ≡ false) tables) its differ.0) in
    let next_is : plain_table moment next ≡ change (plain_table moment t) = now ∙ ap (λ t. change (plain_table moment t)) (sym first) in
    rw here (cc (rest, next_is))
one_changed moment id change (t ∷ tables) (suc n) stored next differ there of now =
    let other : same_id stored.id t.id ≡ false = not_there t.id tables n stored differ.0 there in
    let past : same_id t.id id ≡ false = ap (same_id t.id) (sym of) ∙ differ_sym stored.id t.id other in
    rw past (ap (λ ts. plain_table moment t ∷ ts) (one_changed moment id change tables n stored next differ.1 there of now))

abbrev state_of : TableId → Table → List PlainEntry → TableState
state_of id table entries = record { id = id; table = table; entries = entries }

state_is : (i j : TableId) (s t : Table) (e f : List PlainEntry) → i ≡ j → s ≡ t → e ≡ f → state_of i s e ≡ state_of j t f
state_is i j s t e f ids tables entries = rw (ids, tables, entries) refl

pub plain_left : (moment : ℕ) (track : Track) (tables : List StoredTable) (n : ℕ) (stored next : StoredTable) → TablesDiffer tables → slice_get tables n ≡ Some stored → stored.id ≡ track.table →
    next.id ≡ stored.id → next.table ≡ stored.table → plain (passed moment next.entries).entries ≡ touched moment track.key (plain (passed moment stored.entries).entries) →
    map (plain_table moment) (set tables n next) ≡ without_track moment track (map (plain_table moment) tables)
plain_left moment track tables n stored next differ there of same table_is entries_are =
    one_changed moment track.table (λ t. record t { entries = touched moment track.key t.entries }) tables n stored next differ there of
    (state_is next.id stored.id next.table stored.table (plain (passed moment next.entries).entries) (touched moment track.key (plain (passed moment stored.entries).entries)) same table_is entries_are)

pub plain_more : (moment : ℕ) (tracks : List Track) (track : Track) (tables : List StoredTable) (n : ℕ) (stored next : StoredTable) → TablesDiffer tables → slice_get tables n ≡ Some stored → stored.id ≡ track.table →
    next.id ≡ stored.id → next.table ≡ stored.table →
    plain (passed moment next.entries).entries ≡ with_tracking moment (trackers tracks stored.id) stored.table.size track.key (plain (passed moment stored.entries).entries) →
    map (plain_table moment) (set tables n next) ≡ with_track moment tracks track (map (plain_table moment) tables)
plain_more moment tracks track tables n stored next differ there of same table_is entries_are =
    one_changed moment track.table (λ t. record t { entries = with_tracking moment (trackers tracks t.id) t.table.size track.key t.entries }) tables n stored next differ there of
    (state_is next.id stored.id next.table stored.table (plain (passed moment next.entries).entries) (with_tracking moment (trackers tracks stored.id) stored.table.size track.key (plain (passed moment stored.entries).entries)) same table_is entries_are)

-- a tracking more
pub counts_more : (tracking : Tracking) (tables : List StoredTable) (n : ℕ) (stored next : StoredTable) → Found tracking.table tables n stored → next.id ≡ stored.id →
    ((key : Addr) → cur_of key next.entries.entries ≡ cur_of key stored.entries.entries + trackings_of key (Some tracking.token)) →
    (other : TableId) (key : Addr) → cur_in other key (set tables n next) ≡ cur_in other key tables + counter_on other key (Some tracking)
counts_more tracking tables n stored next at same counts other key = by (same_id tracking.table other) refl
  where
    by : (b : Bool) → same_id tracking.table other ≡ b → cur_in other key (set tables n next) ≡ cur_in other key tables + cond (b && same_addr tracking.token key) 1 0
    by false differ = let past = cur_elsewhere tracking.table other key tables n stored next at same differ in omega (arith, past)
    by true one =
        let is = cur_here tracking.table key tables n stored next at same in
        let was = cur_found tracking.table key tables stored at.found in
        let more = counts key in
        rw (← same_id-is tracking.table other one) (omega (arith, is, was, more))

-- several trackings end, one after the other
pub without-append : (moment : ℕ) (a b : List Track) (tables : List TableState) → without_tracks moment (a ++ b) tables ≡ without_tracks moment b (without_tracks moment a tables)
without-append moment [] b tables = refl
without-append moment (track ∷ a) b tables = without-append moment a b (without_track moment track tables)

-- What is always true of the tables stays so.

differ_set : (tables : List StoredTable) (n : ℕ) (stored next : StoredTable) → slice_get tables n ≡ Some stored → next.id ≡ stored.id → TablesDiffer tables → TablesDiffer (set tables n next)
differ_set [] n stored next there same differ = tt
differ_set (t ∷ tables) zero stored next there same differ =
    let first : t ≡ stored = cc in
    let its : t.id ≡ next.id = ap (λ t. t.id) first ∙ sym same in
    (subst (λ i. AllByRecursion (λ other. same_id other.id i ≡ false) tables) its differ.0, differ.1)
differ_set (t ∷ tables) (suc n) stored next there same differ =
    let other : same_id next.id t.id ≡ false = ap (λ i. same_id i t.id) same ∙ not_there t.id tables n stored differ.0 there in
    (all_set (λ other. same_id other.id t.id ≡ false) tables n next differ.0 other, differ_set tables n stored next there same differ.1)

pub still_tables : (moment : ℕ) (spare least : ℕ) (tables : List StoredTable) (n : ℕ) (stored next : StoredTable) → slice_get tables n ≡ Some stored → next.id ≡ stored.id → AreTables moment spare tables →
    AllByRecursion (IsStored moment least) tables → IsStored moment least next → AreTables moment least (set tables n next)
still_tables moment spare least tables n stored next there same known each is = record { differ = differ_set tables n stored next there same known.differ; each = all_set (IsStored moment least) tables n next each is }

-- Tables without entries.

id_at : (moment : ℕ) (version n : ℕ) (tables : List Table) (stored : List StoredTable) → map (plain_table moment) stored ≡ map (new_table version) (enumerate_from n tables) → (id : TableId) → id.position < n → AllByRecursion (λ other. same_id other.id id ≡ false) stored
id_at moment version n [] [] is id less = tt
id_at moment version n [] (s ∷ stored) is id less = absurd (cc)
id_at moment version n (t ∷ tables) [] is id less = absurd (cc)
id_at moment version n (t ∷ tables) (s ∷ stored) is id less =
    let first : plain_table moment s ≡ new_table version (n, t) = cc in
    let rest : map (plain_table moment) stored ≡ map (new_table version) (enumerate_from (n + 1) tables) = cc in
    let its : s.id.position ≡ n = ap (λ t. t.id.position) first in
    let differs : (s.id.position == id.position) ≡ false = grind (arith, nat_tests, its, less) in
    (and_false (s.id.version == id.version) (s.id.position == id.position) differs, id_at moment version (n + 1) tables stored rest id (omega arith))

new_differ : (moment : ℕ) (version n : ℕ) (tables : List Table) (stored : List StoredTable) → map (plain_table moment) stored ≡ map (new_table version) (enumerate_from n tables) → TablesDiffer stored
new_differ moment version n [] [] is = tt
new_differ moment version n [] (s ∷ stored) is = absurd (cc)
new_differ moment version n (t ∷ tables) [] is = absurd (cc)
new_differ moment version n (t ∷ tables) (s ∷ stored) is =
    let first : plain_table moment s ≡ new_table version (n, t) = cc in
    let rest : map (plain_table moment) stored ≡ map (new_table version) (enumerate_from (n + 1) tables) = cc in
    let its : s.id.position ≡ n = ap (λ t. t.id.position) first in
    (id_at moment version (n + 1) tables stored rest s.id (omega (arith, its)), new_differ moment version (n + 1) tables stored rest)

pub new_tables : (moment : ℕ) (version : ℕ) (tables : List Table) (stored : List StoredTable) → map (plain_table moment) stored ≡ map (new_table version) (enumerate_from 0 tables) → AllByRecursion (IsStored moment 0) stored → AreTables moment 0 stored
new_tables moment version tables stored is each = record { differ = new_differ moment version 0 tables stored is; each = each }

-- the table is sound
abbrev pub AreSound : StoredTable → Type 0
AreSound stored = IsSound stored.entries.size stored.entries.entries

no_entry : (key : Addr) (entries : List StickEntry) → plain entries ≡ [] → cur_of key entries ≡ 0
no_entry key [] none = refl
no_entry key (e ∷ entries) none = absurd (cc)

pub no_entry_at : (moment : ℕ) (key : Addr) (table : Listing) → IsSound table.size table.entries → plain (passed moment table).entries ≡ [] → cur_of key table.entries ≡ 0
no_entry_at moment key table sound none = sym (cur_of-living table.expire moment table.entries sound.once key) ∙ no_entry key (passed moment table).entries none

pub new_counts : (moment : ℕ) (version n : ℕ) (tables : List Table) (stored : List StoredTable) → map (plain_table moment) stored ≡ map (new_table version) (enumerate_from n tables) → AllByRecursion AreSound stored → (id : TableId) (key : Addr) → cur_in id key stored ≡ 0
new_counts moment version n [] [] is sound id key = refl
new_counts moment version n [] (s ∷ stored) is sound id key = absurd (cc)
new_counts moment version n (t ∷ tables) [] is sound id key = absurd (cc)
new_counts moment version n (t ∷ tables) (s ∷ stored) is sound id key =
    let rest : map (plain_table moment) stored ≡ map (new_table version) (enumerate_from (n + 1) tables) = cc in
    by (is_table id s) (new_counts moment version (n + 1) tables stored rest sound.1 id key)
  where
    first : plain_table moment s ≡ new_table version (n, t)
    first = cc

    by : (b : Bool) → cur_in id key stored ≡ 0 → option_map_or (λ stored. cur_of key stored.entries.entries) (if b then Some s else find (is_table id) stored) 0 ≡ 0
    by true more = no_entry_at moment key s.entries sound.0 (ap (λ t. t.entries) first)
    by false more = more

-- Tables looked up.

find-plain : (moment : ℕ) (id : TableId) (tables : List StoredTable) → table_at (map (plain_table moment) tables) id ≡ option_map (plain_table moment) (find (is_table id) tables)
find-plain moment id [] = refl
find-plain moment id (t ∷ tables) = by (same_id t.id id) (find-plain moment id tables)
  where
    by : (b : Bool) → table_at (map (plain_table moment) tables) id ≡ option_map (plain_table moment) (find (is_table id) tables) →
        (if b then Some (plain_table moment t) else table_at (map (plain_table moment) tables) id) ≡ option_map (plain_table moment) (if b then Some t else find (is_table id) tables)
    by true more = refl
    by false more = more

pub table_nowhere : (moment : ℕ) (id : TableId) (tables : List StoredTable) → find (is_table id) tables ≡ None → table_at (map (plain_table moment) tables) id ≡ None
table_nowhere moment id tables none = find-plain moment id tables ∙ ap (option_map (plain_table moment)) none

pub table_there : (moment : ℕ) (id : TableId) (tables : List StoredTable) (stored : StoredTable) → find (is_table id) tables ≡ Some stored → table_at (map (plain_table moment) tables) id ≡ Some (plain_table moment stored)
table_there moment id tables stored found = find-plain moment id tables ∙ ap (option_map (plain_table moment)) found

-- each key of the table that is found is tracked by so many
pub trackers_of : (id : TableId) (tables : List StoredTable) (stored : StoredTable) (tracks : List Track) → find (is_table id) tables ≡ Some stored → AreCounted tracks tables → AreTrackers (trackers tracks stored.id) stored.entries.entries
trackers_of id tables stored tracks found counted key =
    let is : stored.id ≡ id = same_id-is stored.id id (find-passes (is_table id) tables stored found) in
    sym (cur_found id key tables stored found) ∙ counted id key ∙ ap (λ i. trackers tracks i key) (sym is)

pub stored_of : (moment : ℕ) (spare : ℕ) (id : TableId) (tables : List StoredTable) (stored : StoredTable) → find (is_table id) tables ≡ Some stored → AllByRecursion (IsStored moment spare) tables → IsStored moment spare stored
stored_of moment spare id tables stored found each = (all-found (IsStored moment spare) (is_table id) tables stored each found).0

-- What is in memory.

-- so many are there at a moment, where so many are in memory
pub has_in_memory : (moment spare count : ℕ) (stored : StoredTable) → IsStored moment spare stored → length stored.entries.entries ≤ count → count ≤ stored.entries.size →
    (stored.entries.expire ≡ 0 → count ≡ length stored.entries.entries) → HasInMemory (plain_table moment stored) count
has_in_memory moment spare count stored is least most exact = record {
  least =
      let same = length-map (living stored.entries.expire moment stored.entries.entries) plain_entry in
      let few = length-living stored.entries.expire moment stored.entries.entries in
      omega (arith, same, few, least);
  most = let size = is.size in omega (arith, most, size);
  exact = λ never.
      let ever : stored.entries.expire ≡ 0 = is.expire ∙ never in
      exact ever ∙ ap length (sym (living-for_ever stored.entries.expire moment stored.entries.entries ever))
      ∙ sym (length-map (living stored.entries.expire moment stored.entries.entries) plain_entry);
}

-- Memory.

pub same_grown : (tables : List StoredTable) → AreGrown tables tables
same_grown [] = tt
same_grown (t ∷ tables) = (record { same = refl; spare = omega arith }, same_grown tables)

pub grown_set : (old tables : List StoredTable) (n : ℕ) (stored next : StoredTable) → AreGrown old tables → slice_get tables n ≡ Some stored → IsGrown stored next → AreGrown old (set tables n next)
grown_set [] [] n stored next grown there is = tt
grown_set [] (t ∷ tables) n stored next grown there is = absurd grown
grown_set (o ∷ old) [] n stored next grown there is = absurd grown
grown_set (o ∷ old) (t ∷ tables) zero stored next grown there is =
    let first : t ≡ stored = cc in
    let mine : IsGrown o stored = subst (IsGrown o) first grown.0 in
    let entries : stored.entries ≡ record o.entries { spare = stored.entries.spare } = ap (λ s. s.entries) mine.same in
    let same : next ≡ record o { entries = record o.entries { spare = next.entries.spare } } =
    is.same ∙ ap (λ (s : StoredTable). record { id = s.id; table = s.table; entries = record s.entries { spare = next.entries.spare } }) mine.same in
    let a = mine.spare in
    let b = is.spare in
    (record { same = same; spare = omega (arith, a, b) }, grown.1)
grown_set (o ∷ old) (t ∷ tables) (suc n) stored next grown there is = (grown.0, grown_set old tables n stored next grown.1 there is)

pub grown_plain : (moment : ℕ) (old tables : List StoredTable) → AreGrown old tables → map (plain_table moment) tables ≡ map (plain_table moment) old
grown_plain moment [] [] grown = refl
grown_plain moment [] (t ∷ tables) grown = absurd grown
grown_plain moment (o ∷ old) [] grown = absurd grown
grown_plain moment (o ∷ old) (t ∷ tables) grown =
    let first : plain_table moment t ≡ plain_table moment o = ap (plain_table moment) grown.0.same in
    let rest = grown_plain moment old tables grown.1 in
    cc (first, rest)

pub grown_cur : (old tables : List StoredTable) → AreGrown old tables → (id : TableId) (key : Addr) → cur_in id key tables ≡ cur_in id key old
grown_cur [] [] grown id key = refl
grown_cur [] (t ∷ tables) grown id key = absurd grown
grown_cur (o ∷ old) [] grown id key = absurd grown
grown_cur (o ∷ old) (t ∷ tables) grown id key = ap (λ b. option_map_or (λ stored. cur_of key stored.entries.entries) (if b then Some t else find (is_table id) tables) 0) same ∙ by (same_id o.id id) (grown_cur old tables grown.1 id key)
  where
    same : same_id t.id id ≡ same_id o.id id
    same = ap (λ s. same_id s.id id) grown.0.same

    by : (b : Bool) → cur_in id key tables ≡ cur_in id key old →
        option_map_or (λ stored. cur_of key stored.entries.entries) (if b then Some t else find (is_table id) tables) 0 ≡ option_map_or (λ stored. cur_of key stored.entries.entries) (if b then Some o else find (is_table id) old) 0
    by true more = ap (λ s. cur_of key s.entries.entries) grown.0.same
    by false more = more

grown_other : (old tables : List StoredTable) (id : TableId) → AreGrown old tables → AllByRecursion (λ other. same_id other.id id ≡ false) old → AllByRecursion (λ other. same_id other.id id ≡ false) tables
grown_other [] [] id grown differ = tt
grown_other [] (t ∷ tables) id grown differ = absurd grown
grown_other (o ∷ old) [] id grown differ = absurd grown
grown_other (o ∷ old) (t ∷ tables) id grown differ = (ap (λ s. same_id s.id id) grown.0.same ∙ differ.0, grown_other old tables id grown.1 differ.1)

pub grown_differ : (old tables : List StoredTable) → AreGrown old tables → TablesDiffer old → TablesDiffer tables
grown_differ [] [] grown differ = tt
grown_differ [] (t ∷ tables) grown differ = absurd grown
grown_differ (o ∷ old) [] grown differ = absurd grown
grown_differ (o ∷ old) (t ∷ tables) grown differ =
    let id : o.id ≡ t.id = ap (λ s. s.id) (sym grown.0.same) in
    (subst (λ i. AllByRecursion (λ other. same_id other.id i ≡ false) tables) id (grown_other old tables o.id grown.1 differ.0), grown_differ old tables grown.1 differ.1)

grown_one : (moment : ℕ) (spare : ℕ) (old stored : StoredTable) → IsGrown old stored → IsStored moment spare old → IsStored moment spare stored
grown_one moment spare old stored grown is = record {
  kind = ap (λ s. s.entries.kind) grown.same ∙ is.kind ∙ ap (λ s. s.table.kind) (sym grown.same);
  size = ap (λ s. s.entries.size) grown.same ∙ is.size ∙ ap (λ s. s.table.size) (sym grown.same);
  stores = ap (λ s. s.entries.stores) grown.same ∙ is.stores ∙ ap (λ s. s.table.stores) (sym grown.same);
  expire = ap (λ s. s.entries.expire) grown.same ∙ is.expire ∙ ap (λ s. s.table.expire) (sym grown.same);
  past = let same = ap (λ s. s.entries.clock) grown.same in let a = is.past in omega (arith, same, a);
  sound = subst AreSound (sym grown.same) is.sound;
  room = let a = is.room in let b = grown.spare in omega (arith, a, b);
}

grown_each : (moment : ℕ) (spare : ℕ) (old tables : List StoredTable) → AreGrown old tables → AllByRecursion (IsStored moment spare) old → AllByRecursion (IsStored moment spare) tables
grown_each moment spare [] [] grown each = tt
grown_each moment spare [] (t ∷ tables) grown each = absurd grown
grown_each moment spare (o ∷ old) [] grown each = absurd grown
grown_each moment spare (o ∷ old) (t ∷ tables) grown each = (grown_one moment spare o t grown.0 each.0, grown_each moment spare old tables grown.1 each.1)

pub grown_tables : (moment : ℕ) (spare : ℕ) (old tables : List StoredTable) → AreGrown old tables → AreTables moment spare old → AreTables moment spare tables
grown_tables moment spare old tables grown known = record { differ = grown_differ old tables grown known.differ; each = grown_each moment spare old tables grown known.each }

room_each : (moment : ℕ) (spare least : ℕ) (tables : List StoredTable) → AllByRecursion (IsStored moment spare) tables → AllByRecursion (λ stored. least ≤ stored.entries.spare) tables → AllByRecursion (IsStored moment least) tables
room_each moment spare least [] each room = tt
room_each moment spare least (t ∷ tables) each room = (record { kind = each.0.kind; size = each.0.size; stores = each.0.stores; expire = each.0.expire; past = each.0.past; sound = each.0.sound; room = room.0 }, room_each moment spare least tables each.1 room.1)

pub room_tables : (moment : ℕ) (spare least : ℕ) (tables : List StoredTable) → AreTables moment spare tables → AllByRecursion (λ stored. least ≤ stored.entries.spare) tables → AreTables moment least tables
room_tables moment spare least tables known room = record { differ = known.differ; each = room_each moment spare least tables known.each room }

-- A key tracked.

pub token_is : (moment : ℕ) (tracks : List Track) (stored : StoredTable) (spare : ℕ) (token : Option Addr) (addr key : Addr) → IsStored moment spare stored →
    token ≡ tracked_key (trackers tracks stored.id) stored.entries.kind stored.entries.size (plain (passed moment stored.entries).entries) addr → table_key tracks addr (plain_table moment stored) ≡ Some key → token ≡ Some key
token_is moment tracks stored spare token addr key is token_at key_is =
    token_at
    ∙ ap (λ k. tracked_key (trackers tracks stored.id) k stored.entries.size (plain (passed moment stored.entries).entries) addr) is.kind
    ∙ ap (λ n. tracked_key (trackers tracks stored.id) stored.table.kind n (plain (passed moment stored.entries).entries) addr) is.size
    ∙ key_is

pub key_nowhere : (moment : ℕ) (tracks : List Track) (id : TableId) (tables : List StoredTable) (addr key : Addr) → find (is_table id) tables ≡ None → key_at tracks (map (plain_table moment) tables) id addr ≡ Some key → ⊥
key_nowhere moment tracks id tables addr key none is =
    let nothing : key_at tracks (map (plain_table moment) tables) id addr ≡ None = ap (option_and_then (table_key tracks addr)) (table_nowhere moment id tables none) in
    let wrong : Some key ≡ None = sym is ∙ nothing in
    absurd (cc)

pub key_there : (moment : ℕ) (tracks : List Track) (id : TableId) (tables : List StoredTable) (stored : StoredTable) (addr key : Addr) → find (is_table id) tables ≡ Some stored → key_at tracks (map (plain_table moment) tables) id addr ≡ Some key →
    table_key tracks addr (plain_table moment stored) ≡ Some key
key_there moment tracks id tables stored addr key found is = sym (ap (option_and_then (table_key tracks addr)) (table_there moment id tables stored found)) ∙ is

-- with memory for one tracking less
less_each : (moment : ℕ) (spare : ℕ) (tables : List StoredTable) → AllByRecursion (IsStored moment spare) tables → AllByRecursion (IsStored moment (spare - 1)) tables
less_each moment spare [] each = tt
less_each moment spare (t ∷ tables) each = (record { kind = each.0.kind; size = each.0.size; stores = each.0.stores; expire = each.0.expire; past = each.0.past; sound = each.0.sound; room = let a = each.0.room in omega (arith, a) }, less_each moment spare tables each.1)

pub tracking_tables : (moment : ℕ) (spare : ℕ) (tables : List StoredTable) (n : ℕ) (stored next : StoredTable) → slice_get tables n ≡ Some stored →
    next ≡ record stored { entries = record (passed moment stored.entries) { entries = next.entries.entries; spare = next.entries.spare } } → AreSound next →
    stored.entries.spare ≤ next.entries.spare + 1 → AreTables moment spare tables → AreTables moment (spare - 1) (set tables n next)
tracking_tables moment spare tables n stored next there same sound room known =
    let was : IsStored moment spare stored = all-at (IsStored moment spare) tables n stored known.each there in
    let is : IsStored moment (spare - 1) next =
    record {
      kind = ap (λ s. s.entries.kind) same ∙ was.kind ∙ ap (λ s. s.table.kind) (sym same);
      size = ap (λ s. s.entries.size) same ∙ was.size ∙ ap (λ s. s.table.size) (sym same);
      stores = ap (λ s. s.entries.stores) same ∙ was.stores ∙ ap (λ s. s.table.stores) (sym same);
      expire = ap (λ s. s.entries.expire) same ∙ was.expire ∙ ap (λ s. s.table.expire) (sym same);
      past = let now = ap (λ s. s.entries.clock) same in omega (arith, now);
      sound = sound;
      room = let a = was.room in omega (arith, a, room);
    } in
    still_tables moment spare (spare - 1) tables n stored next there (ap (λ s. s.id) same) known (less_each moment spare tables known.each) is

-- Time passes.

pub later_each : (moment later spare : ℕ) (tables : List StoredTable) → moment ≤ later → AllByRecursion (IsStored moment spare) tables → AllByRecursion (IsStored later spare) tables
later_each moment later spare [] less each = tt
later_each moment later spare (t ∷ tables) less each = (
  record {
    kind = each.0.kind;
    size = each.0.size;
    stores = each.0.stores;
    expire = each.0.expire;
    past = let a = each.0.past in omega (arith, a, less);
    sound = each.0.sound;
    room = each.0.room;
  },
  later_each moment later spare tables less each.1,
)

pub later_tables : (moment later spare : ℕ) (tables : List StoredTable) → moment ≤ later → AreTables moment spare tables → AreTables later spare tables
later_tables moment later spare tables less known = record { differ = known.differ; each = later_each moment later spare tables less known.each }

pub sound_each : (moment spare : ℕ) (tables : List StoredTable) → AllByRecursion (IsStored moment spare) tables → AllByRecursion AreSound tables
sound_each moment spare [] each = tt
sound_each moment spare (t ∷ tables) each = (each.0.sound, sound_each moment spare tables each.1)

-- a table that was shown at a moment is the same at it
pub shown_same : (moment : ℕ) (table : Listing) → IsShown table → table.clock ≡ moment → (passed moment table).entries ≡ table.entries
shown_same moment table shown now = living-all table.expire moment table.entries (ap (λ m. list_any (is_gone table.expire m) table.entries) (sym now) ∙ shown.lives)

one_later : (moment later spare : ℕ) (stored : StoredTable) (tracks : List Track) → moment ≤ later → IsStored moment spare stored → AreTrackers (trackers tracks stored.id) stored.entries.entries →
    plain_table later stored ≡ table_alive later tracks (plain_table moment stored)
one_later moment later spare stored tracks less is agree =
    let f : Addr → ℕ = trackers tracks stored.id in
    let with_entries : List PlainEntry → TableState = λ entries. record { id = stored.id; table = stored.table; entries = entries } in
    ap with_entries
    (alive-later f stored.entries.size stored.entries.expire moment later stored.entries.entries less is.sound agree
    ∙ ap (λ expire. alive f expire later (plain (passed moment stored.entries).entries)) is.expire)

-- each table is found by its incarnation
own_found : (tables : List StoredTable) → TablesDiffer tables → AllByRecursion (λ stored. find (is_table stored.id) tables ≡ Some stored) tables
own_found [] differ = tt
own_found (x ∷ tables) differ = (
  rw (same_id-refl x.id) refl,
  all-more (λ stored. (same_id stored.id x.id ≡ false) × (find (is_table stored.id) tables ≡ Some stored)) (λ stored. find (is_table stored.id) (x ∷ tables) ≡ Some stored) tables
      (λ stored both. rw (differ_sym stored.id x.id both.0) both.1)
      (all-both (λ stored. same_id stored.id x.id ≡ false) (λ stored. find (is_table stored.id) tables ≡ Some stored) tables differ.0 (own_found tables differ.1)),
)

abbrev AreAgreed : List Track → StoredTable → Type 0
AreAgreed tracks stored = AreTrackers (trackers tracks stored.id) stored.entries.entries

each_later : (moment later spare : ℕ) (tables : List StoredTable) (tracks : List Track) → moment ≤ later → AllByRecursion (IsStored moment spare) tables → AllByRecursion (AreAgreed tracks) tables →
    map (plain_table later) tables ≡ tables_alive later tracks (map (plain_table moment) tables)
each_later moment later spare [] tracks less each agreed = refl
each_later moment later spare (t ∷ tables) tracks less each agreed =
    let here : plain_table later t ≡ table_alive later tracks (plain_table moment t) = one_later moment later spare t tracks less each.0 agreed.0 in
    let rest : map (plain_table later) tables ≡ tables_alive later tracks (map (plain_table moment) tables) = each_later moment later spare tables tracks less each.1 agreed.1 in
    cc (here, rest)

-- where so many track each key, the tables later on are those that live on
pub tables_later : (moment later spare : ℕ) (tables : List StoredTable) (tracks : List Track) → moment ≤ later → AreTables moment spare tables → AreCounted tracks tables →
    map (plain_table later) tables ≡ tables_alive later tracks (map (plain_table moment) tables)
tables_later moment later spare tables tracks less known counted =
    each_later moment later spare tables tracks less known.each
    (all-more (λ stored. find (is_table stored.id) tables ≡ Some stored) (AreAgreed tracks) tables (λ stored found. trackers_of stored.id tables stored tracks found counted) (own_found tables known.differ))

-- The place of a table.

-- two places with tables of one incarnation are one
one_incarnation : (tables : List StoredTable) → TablesDiffer tables → (i j : ℕ) (a b : StoredTable) →
    slice_get tables i ≡ Some a → slice_get tables j ≡ Some b → a.id ≡ b.id → i ≡ j
one_incarnation [] differ i j a b left right same = absurd (let wrong : None ≡ Some a = left in cc)
one_incarnation (t ∷ tables) differ zero zero a b left right same = refl
one_incarnation (t ∷ tables) differ zero (suc j) a b left right same =
    let first : t ≡ a = one_item (Some t) t a refl left in
    let other : same_id b.id t.id ≡ false = not_there t.id tables j b differ.0 right in
    absurd (false≢true (sym other ∙ ap (same_id b.id) (ap (λ s. s.id) first ∙ same) ∙ same_id-refl b.id))
one_incarnation (t ∷ tables) differ (suc i) zero a b left right same =
    let first : t ≡ b = one_item (Some t) t b refl right in
    let other : same_id a.id t.id ≡ false = not_there t.id tables i a differ.0 left in
    absurd (false≢true (sym other ∙ ap (same_id a.id) (ap (λ s. s.id) first ∙ sym same) ∙ same_id-refl a.id))
one_incarnation (t ∷ tables) differ (suc i) (suc j) a b left right same = ap suc (one_incarnation tables differ.1 i j a b left right same)

-- a table of an incarnation is the first that is of it
pub incarnation_place : (id : TableId) (tables : List StoredTable) → TablesDiffer tables → (place : ℕ) (stored : StoredTable) →
    slice_get tables place ≡ Some stored → is_table id stored ≡ true → position (is_table id) tables ≡ Some place
incarnation_place id tables differ place stored there is =
    position-only (is_table id) tables place stored there is (λ m other at passes.
    one_incarnation tables differ m place other stored at there (same_id-is other.id id passes ∙ sym (same_id-is stored.id id is)))
