-- Each table that is kept is listed by a version that is kept.
use Rattle.std.proofs.Common.{◌≡◌, ℕ, Bool, true, false, List, [], ◌∷◌, ◌++◌, map, Option, Some, None, Result, Ok, Err, refl, sym, ap, subst, ◌∙◌}
use Rattle.std.specs.Prelude.{filter, is_none, OnOk, OnErr, ◌==◌, ◌||◌, if◌then◌else◌}
use Rattle.std.specs.List.{list_any, AllByRecursion, enumerate_from}
use Rattle.std.specs.Option.{option_map_or}
use Rattle.stick_core.specs.PlainEntries.{touched}
use Rattle.plan_types.specs.declared.plan.Plan.{Plan}
use Rattle.plan_types.specs.declared.plan.Table.{Table}
use Rattle.plan_types.specs.declared.track.TableId.{TableId}
use Rattle.plan_types.specs.declared.track.Track.{Track}
use Rattle.conn_model.specs.declared.plain.TableState.{TableState}
use Rattle.conn_model.specs.declared.plain.Version.{Version}
use Rattle.conn_model.specs.Words.{newest}
use Rattle.conn_model.specs.History.{new_version, next_version, tables_with, with_offer, with_version}
use Rattle.conn_model.specs.Servers.{cursors_after}
use Rattle.conn_model.specs.Tables.{is_listed_by, is_new, new_table, next_id, same_before, same_id, table_with, table_without, with_track, without_track, without_tracks, written_tables}
use Rattle.conn_model.proofs.Lists.{all-append, all-map, all-more, all-pass, filter-all, or_left, or_right}
use Rattle.conn_model.proofs.OneTable.{same_id-refl, table_with-entries}
use Rattle.conn_model.proofs.TableSteps.{lists, new_tables_well}
use Rattle.conn_tables.specs.declared.tables.StoredTable.{StoredTable}
use Rattle.conn_tables.specs.Tables.{StoredTables, plain_table}
use Rattle.conn_rows.specs.Value.{AreTablesListed}

-- when a plan is opened
pub listed-opened : (plan : Plan) (versions : List Version) (tables : List TableState) → versions ≡ new_version 1 plan ∷ [] → tables ≡ map (new_table 1) (enumerate_from 0 plan.tables) → AreTablesListed versions tables
listed-opened plan versions tables versions_are tables_are = rw (versions_are, tables_are) ((new_tables_well plan 0).listed)

-- Tables whose incarnations stay.

listed-map : (versions : List Version) (f : TableState → TableState) → ((table : TableState) → (f table).id ≡ table.id) → (tables : List TableState) → AreTablesListed versions tables → AreTablesListed versions (map f tables)
listed-map versions f same tables known =
    all-map (λ table. is_listed_by versions table ≡ true) f tables
    (all-more (λ table. is_listed_by versions table ≡ true) (λ table. is_listed_by versions (f table) ≡ true) tables (λ table is. ap (lists versions) (same table) ∙ is) known)

pub listed-track : (versions : List Version) (moment : ℕ) (tracks : List Track) (track : Track) (tables next : List TableState) → next ≡ with_track moment tracks track tables → AreTablesListed versions tables → AreTablesListed versions next
listed-track versions moment tracks track tables next is known =
    subst (AreTablesListed versions) (sym is) (listed-map versions (table_with moment tracks track) (λ table. ap (λ (t : TableState). t.id) (table_with-entries moment tracks track table)) tables known)

without_id : (moment : ℕ) (track : Track) (table : TableState) → (table_without moment track table).id ≡ table.id
without_id moment track table = by (same_id table.id track.table)
  where
    by : (b : Bool) → (if b then record table { entries = touched moment track.key table.entries } else table).id ≡ table.id
    by true = refl
    by false = refl

listed-without : (versions : List Version) (moment : ℕ) (ended : List Track) (tables : List TableState) → AreTablesListed versions tables → AreTablesListed versions (without_tracks moment ended tables)
listed-without versions moment [] tables known = known
listed-without versions moment (track ∷ ended) tables known = listed-without versions moment ended (without_track moment track tables) (listed-map versions (table_without moment track) (without_id moment track) tables known)

pub listed-ended : (versions others : List Version) (moment : ℕ) (ended : List Track) (tables next : List TableState) → others ≡ versions → next ≡ without_tracks moment ended tables → AreTablesListed versions tables → AreTablesListed others next
listed-ended versions others moment ended tables next same is known = rw (same, is) (listed-without versions moment ended tables known)

-- the same tables at another moment
pub listed-later : (versions : List Version) (moment later : ℕ) (tables : List StoredTable) → AreTablesListed versions (map (plain_table moment) tables) → AreTablesListed versions (map (plain_table later) tables)
listed-later versions moment later [] known = tt
listed-later versions moment later (stored ∷ tables) known = (known.0, listed-later versions moment later tables known.1)

pub listed-same : (versions : List Version) (tables next : List TableState) → next ≡ tables → AreTablesListed versions tables → AreTablesListed versions next
listed-same versions tables next is known = subst (AreTablesListed versions) (sym is) known

-- An offer.

offer-lists : (number line server : ℕ) (versions : List Version) (id : TableId) → lists (map (with_offer number line server) versions) id ≡ lists versions id
offer-lists number line server [] id = refl
offer-lists number line server (v ∷ versions) id =
    ap (λ b. b || lists (map (with_offer number line server) versions) id) (by (v.number == number)) ∙ ap (λ b. list_any (same_id id) v.tables || b) (offer-lists number line server versions id)
  where
    by : (b : Bool) → list_any (same_id id) (if b then record v { cursors = cursors_after v.plan line server v.cursors } else v).tables ≡ list_any (same_id id) v.tables
    by true = refl
    by false = refl

pub listed-offer : (number line server : ℕ) (versions others : List Version) (tables : List TableState) → others ≡ map (with_offer number line server) versions → AreTablesListed versions tables → AreTablesListed others tables
listed-offer number line server versions others tables is known =
    subst (λ vs. AreTablesListed vs tables) (sym is)
    (all-more (λ table. is_listed_by versions table ≡ true) (λ table. is_listed_by (map (with_offer number line server) versions) table ≡ true) tables
    (λ table listed. offer-lists number line server versions table.id ∙ listed) known)

-- A version that is brought.

any-front : (test : Version → Bool) (versions : List Version) (last : Version) → list_any test versions ≡ true → list_any test (versions ++ last ∷ []) ≡ true
any-front test [] last is = absurd (let wrong : false ≡ true = is in cc)
any-front test (v ∷ versions) last is = by (test v) refl is (any-front test versions last)
  where
    by : (b : Bool) → test v ≡ b → list_any test (v ∷ versions) ≡ true → (list_any test versions ≡ true → list_any test (versions ++ last ∷ []) ≡ true) → list_any test (v ∷ (versions ++ last ∷ [])) ≡ true
    by true here is rest = or_left (test v) (list_any test (versions ++ last ∷ [])) here
    by false other is rest = or_right (test v) (list_any test (versions ++ last ∷ [])) (rest (rw other at is))

any-last : (test : Version → Bool) (versions : List Version) (last : Version) → test last ≡ true → list_any test (versions ++ last ∷ []) ≡ true
any-last test [] last is = or_left (test last) false is
any-last test (v ∷ versions) last is = or_right (test v) (list_any test (versions ++ last ∷ [])) (any-last test versions last is)

-- it lists the tables that begin with it
begun-listed : (number : ℕ) (before : List (Table × TableId)) (pairs : List (ℕ × Table)) →
    AllByRecursion (λ table. list_any (same_id table.id) (map (next_id number before) pairs) ≡ true) (map (new_table number) (filter (is_new before) pairs))
begun-listed number before [] = tt
begun-listed number before ((position, table) ∷ pairs) = by (same_before before table) refl (begun-listed number before pairs)
  where
    own : TableId
    own = record { version = number; position = position }

    id : TableId
    id = next_id number before (position, table)

    ids : List TableId
    ids = map (next_id number before) pairs

    rest : List TableState
    rest = map (new_table number) (filter (is_new before) pairs)

    P : TableState → Type 0
    P = λ table. list_any (same_id table.id) (id ∷ ids) ≡ true

    later : AllByRecursion (λ table. list_any (same_id table.id) ids ≡ true) rest → AllByRecursion P rest
    later known =
        all-more (λ (table : TableState). list_any (same_id table.id) ids ≡ true) P rest
        (λ table is. or_right (same_id table.id id) (list_any (same_id table.id) ids) is) known

    by : (o : Option TableId) → same_before before table ≡ o → AllByRecursion (λ table. list_any (same_id table.id) ids ≡ true) rest → AllByRecursion P (map (new_table number) (filter (is_new before) ((position, table) ∷ pairs)))
    by (Some other) is known =
        let old : is_new before (position, table) ≡ false = ap is_none is in
        let left : map (new_table number) (filter (is_new before) ((position, table) ∷ pairs)) ≡ rest = rw old refl in
        subst (AllByRecursion P) (sym left) (later known)
    by None is known =
        let begins : is_new before (position, table) ≡ true = ap is_none is in
        let all : map (new_table number) (filter (is_new before) ((position, table) ∷ pairs)) ≡ new_table number (position, table) ∷ rest = rw begins refl in
        let first : id ≡ own = ap (λ o. option_map_or (λ i. i) o own) is in
        subst (AllByRecursion P) (sym all) (or_left (same_id own id) (list_any (same_id own) ids) (ap (same_id own) first ∙ same_id-refl own), later known)

listed-more : (versions : List Version) (tables : List TableState) (number : ℕ) (plan : Plan) → AreTablesListed versions tables →
    AreTablesListed (with_version versions (Some (number, plan))) (tables ++ tables_with (newest versions) (Some (number, plan)))
listed-more versions tables number plan known =
    let before : List (Table × TableId) = written_tables (newest versions) in
    let last : Version = next_version number before plan in
    let begun : List TableState = tables_with (newest versions) (Some (number, plan)) in
    all-append (λ table. is_listed_by (versions ++ last ∷ []) table ≡ true) tables begun
    (all-more (λ table. is_listed_by versions table ≡ true) (λ table. is_listed_by (versions ++ last ∷ []) table ≡ true) tables
    (λ table is. any-front (λ version. list_any (same_id table.id) version.tables) versions last is) known)
    (all-more (λ table. list_any (same_id table.id) last.tables ≡ true) (λ table. is_listed_by (versions ++ last ∷ []) table ≡ true) begun
    (λ table is. any-last (λ version. list_any (same_id table.id) version.tables) versions last is) (begun-listed number before (enumerate_from 0 plan.tables)))

pub listed-brought : {X E : Type 0} (r : Result X E) (versions others : List Version) (tables rest : StoredTables) (number : ℕ) (plan : Plan) →
    OnOk r (others ≡ with_version versions (Some (number, plan))) → OnOk r (map (plain_table rest.clock) rest.tables ≡ map (plain_table tables.clock) tables.tables ++ tables_with (newest versions) (Some (number, plan))) →
    OnErr r (others ≡ versions) → OnErr r (rest ≡ tables) → AreTablesListed versions (map (plain_table tables.clock) tables.tables) → AreTablesListed others (map (plain_table rest.clock) rest.tables)
listed-brought (Ok x) versions others tables rest number plan more begun same before known = rw (more, begun) (listed-more versions (map (plain_table tables.clock) tables.tables) number plan known)
listed-brought (Err e) versions others tables rest number plan more begun same before known = rw (same, before) known

-- Versions that are forgotten.

pub listed-kept : (versions : List Version) (tables next : List TableState) → next ≡ filter (is_listed_by versions) tables → AreTablesListed versions next
listed-kept versions tables next is = subst (AreTablesListed versions) (sym is) (all-pass (is_listed_by versions) tables)

pub none_unlisted : (versions others : List Version) (tables : List TableState) → others ≡ versions → AreTablesListed versions tables → tables ≡ filter (is_listed_by others) tables
none_unlisted versions others tables same known = sym (filter-all (is_listed_by others) tables (subst (λ vs. AreTablesListed vs tables) (sym same) known))
