-- Trackings of rows, as the rows change.
use Rattle.std.proofs.Common.{◌≡◌, ℕ, ◌*◌, ◌+◌, Bool, true, false, List, [], ◌∷◌, ◌++◌, length, map, set, Option, Some, None, refl, sym, ap, ◌∙◌, arith}
use Rattle.std.proofs.Math.ListN.{length-set}
use Rattle.std.specs.List.{AllByRecursion}
use Rattle.std.specs.Option.{option_map_or}
use Rattle.keyed_list.specs.Entries.{IsFew}
use Rattle.stick_core.specs.Key.{key_in}
use Rattle.plan_types.specs.declared.plan.Frontend.{Frontend}
use Rattle.plan_types.specs.declared.track.Track.{Track}
use Rattle.conn_model.specs.declared.plain.Version.{Version}
use Rattle.conn_model.specs.declared.plain.TableState.{TableState}
use Rattle.conn_model.specs.Tables.{entry_counts, open_tracks, trackers, tracks_in}
use Rattle.conn_tables.specs.declared.tracking.Tracking.{Tracking}
use Rattle.conn_rows.specs.Stored.{plain_frontend, plain_row}
use Rattle.conn_tables.specs.Tables.{AreCounted, cur_in}
use Rattle.conn_tables.specs.Tracks.{counter_on, plain_tracks}
use Rattle.std.specs.Prelude.{filter, flat_map, ◌^◌, ◌<◌, ◌≤◌, slice_get, option_map, ◌==◌, if◌then◌else◌, IfSome, IfNone}
use Rattle.addr_core.specs.declared.addr.Addr.{Addr}
use Rattle.plan_types.specs.declared.track.TableId.{TableId}
use Rattle.conn_model.specs.Counts.{total}
use Rattle.conn_rows.specs.declared.row.StoredRow.{StoredRow}
use Rattle.conn_tables.specs.declared.tables.StoredTable.{StoredTable}
use Rattle.conn_rows.specs.Stored.{StoredFrontend, with_stored}
use Rattle.conn_rows.specs.Value.{AreRows, row_on, rows_total}
use Rattle.conn_model.proofs.Totals.{total-push, total-set}
use Rattle.conn_model.proofs.Lists.{all-at}
use Rattle.conn_model.proofs.Trackers.{trackers-append}
use Rattle.conn_tables.proofs.CounterLemmas.{counter_few, trackers_on, tracks_trackers}
use Rattle.conn_tables.proofs.PlaceLemmas.{all_set}

-- a frontend is changed, and its rows and the tables have so many trackings more
grown_rows : (frontends : List StoredFrontend) (tables rest : List StoredTable) (n : ℕ) (own next : StoredFrontend) (more : TableId → Addr → ℕ) → slice_get frontends n ≡ Some own → IsFew (length next.rows) →
    ((id : TableId) (key : Addr) → total (row_on id key) next.rows ≡ total (row_on id key) own.rows + more id key) →
    ((id : TableId) (key : Addr) → cur_in id key rest ≡ cur_in id key tables + more id key) → AreRows frontends tables → AreRows (set frontends n next) rest
grown_rows frontends tables rest n own next more there small rows counts known = record {
  few = rw (length-set frontends n next) known.few;
  small = all_set (λ own. IsFew (length own.rows)) frontends n next known.small small;
  counted = λ id key.
      let all : rows_total (row_on id key) (set frontends n next) + total (row_on id key) own.rows ≡ rows_total (row_on id key) frontends + total (row_on id key) next.rows =
      total-set (λ own. total (row_on id key) own.rows) frontends n own next there in
      let before = known.counted id key in
      let grown = rows id key in
      let count = counts id key in
      omega (arith, all, before, grown, count);
}

-- its rows track what they did
pub still_rows : (frontends : List StoredFrontend) (tables : List StoredTable) (n : ℕ) (own next : StoredFrontend) → slice_get frontends n ≡ Some own → IsFew (length next.rows) →
    ((id : TableId) (key : Addr) → total (row_on id key) next.rows ≡ total (row_on id key) own.rows) → AreRows frontends tables → AreRows (set frontends n next) tables
still_rows frontends tables n own next there small same =
    grown_rows frontends tables tables n own next (λ id key. 0) there small
    (λ id key. let is = same id key in omega (arith, is))
    (λ id key. omega arith)

-- rows of which one is changed, which tracks what it did
pub total-with : (worth : StoredRow → ℕ) (serial : ℕ) (change : StoredRow → StoredRow) (rows : List StoredRow) → ((row : StoredRow) → worth (change row) ≡ worth row) →
    total worth (with_stored serial change rows) ≡ total worth rows
total-with worth serial change [] same = refl
total-with worth serial change (row ∷ rows) same = let more = total-with worth serial change rows same in let here = by (row.serial == serial) in omega (arith, more, here)
  where
    by : (b : Bool) → worth (if b then change row else row) ≡ worth row
    by true = same row
    by false = refl

-- a row more, which tracks nothing
pub total-arrival : (worth : StoredRow → ℕ) (rows : List StoredRow) (row : StoredRow) → worth row ≡ 0 → total worth (rows ++ row ∷ []) ≡ total worth rows
total-arrival worth rows row none = let more = total-push worth rows row in omega (arith, more, none)

-- a row less
pub total-gone : (worth : StoredRow → ℕ) (frontends : List StoredFrontend) (n : ℕ) (own next : StoredFrontend) (row : StoredRow) → slice_get frontends n ≡ Some own →
    total worth next.rows + worth row ≡ total worth own.rows → rows_total worth (set frontends n next) + worth row ≡ rows_total worth frontends
total-gone worth frontends n own next row there gone =
    let all : rows_total worth (set frontends n next) + total worth own.rows ≡ rows_total worth frontends + total worth next.rows =
    total-set (λ own. total worth own.rows) frontends n own next there in
    omega (arith, all, gone)

pub gone_if : (o : Option StoredRow) (frontends : List StoredFrontend) (n : ℕ) (own next : StoredFrontend) → slice_get frontends n ≡ Some own →
    IfSome o (λ row. (worth : StoredRow → ℕ) → total worth next.rows + worth row ≡ total worth own.rows) →
    IfSome o (λ row. (worth : StoredRow → ℕ) → rows_total worth (set frontends n next) + worth row ≡ rows_total worth frontends)
gone_if None frontends n own next there counts = tt
gone_if (Some row) frontends n own next there counts = λ worth. total-gone worth frontends n own next row there (counts worth)

pub none_if : (o : Option StoredRow) (frontends : List StoredFrontend) (n : ℕ) (own next : StoredFrontend) → slice_get frontends n ≡ Some own → IfNone o (next.rows ≡ own.rows) →
    IfNone o ((worth : StoredRow → ℕ) → rows_total worth (set frontends n next) ≡ rows_total worth frontends)
none_if None frontends n own next there same = λ worth.
    let all : rows_total worth (set frontends n next) + total worth own.rows ≡ rows_total worth frontends + total worth next.rows =
    total-set (λ own. total worth own.rows) frontends n own next there in
    let is : total worth next.rows ≡ total worth own.rows = ap (total worth) same in
    omega (arith, all, is)
none_if (Some row) frontends n own next there same = tt

pub still_small : (frontends : List StoredFrontend) (n : ℕ) (own next : StoredFrontend) → slice_get frontends n ≡ Some own → length next.rows ≤ length own.rows →
    AllByRecursion (λ own. IsFew (length own.rows)) frontends → AllByRecursion (λ own. IsFew (length own.rows)) (set frontends n next)
still_small frontends n own next there less known =
    let small : IsFew (length own.rows) = all-at (λ own. IsFew (length own.rows)) frontends n own known there in
    all_set (λ own. IsFew (length own.rows)) frontends n next known (omega (arith, small, less))

pub fewer : {X : Type 0} (test : X → Bool) (xs : List X) → length (filter test xs) ≤ length xs
fewer test [] = omega arith
fewer test (x ∷ xs) = by (test x) (fewer test xs)
  where
    by : (b : Bool) → length (filter test xs) ≤ length xs → length (if b then x ∷ filter test xs else filter test xs) ≤ length (x ∷ xs)
    by true more = omega (arith, more)
    by false more = omega (arith, more)

-- Trackings as tracks.

own_trackers : (versions : List Version) (rows : List StoredRow) (id : TableId) (key : Addr) → trackers (flat_map (λ row. row.tracks) (map (plain_row versions) rows)) id key ≡ total (row_on id key) rows
own_trackers versions [] id key = refl
own_trackers versions (row ∷ rows) id key =
    let all = trackers-append (plain_tracks row.tracks) (flat_map (λ row. row.tracks) (map (plain_row versions) rows)) id key in
    let here = tracks_trackers row.tracks id key in
    let more = own_trackers versions rows id key in
    omega (arith, all, here, more)

pub open_trackers : (versions : List Version) (frontends : List StoredFrontend) (id : TableId) (key : Addr) →
    trackers (open_tracks (map (plain_frontend versions) frontends)) id key ≡ rows_total (row_on id key) frontends
open_trackers versions [] id key = refl
open_trackers versions (own ∷ frontends) id key =
    let all = trackers-append (tracks_in (plain_frontend versions own)) (open_tracks (map (plain_frontend versions) frontends)) id key in
    let here = own_trackers versions own.rows id key in
    let more = open_trackers versions frontends id key in
    omega (arith, all, here, more)

-- the tables count what the plain rows track
pub are_counted : (versions : List Version) (frontends : List StoredFrontend) (tables : List StoredTable) → AreRows frontends tables → AreCounted (open_tracks (map (plain_frontend versions) frontends)) tables
are_counted versions frontends tables known id key = known.counted id key ∙ sym (open_trackers versions frontends id key)

pub small-empty : (frontends : List Frontend) (last : ℕ) → AllByRecursion (λ (own : StoredFrontend). IsFew (length own.rows)) (map (λ frontend. record { name = frontend.name; serial = last; rows = [] }) frontends)
small-empty [] last = tt
small-empty (f ∷ frontends) last = (omega arith, small-empty frontends last)

-- Not too many trackings.

rows_few : (id : TableId) (key : Addr) (rows : List StoredRow) → total (row_on id key) rows ≤ 3 * length rows
rows_few id key [] = omega arith
rows_few id key (row ∷ rows) =
    let zero = counter_few id key row.tracks.sc0 in
    let one = counter_few id key row.tracks.sc1 in
    let two = counter_few id key row.tracks.sc2 in
    let more = rows_few id key rows in
    omega (arith, zero, one, two, more)

all_few : (id : TableId) (key : Addr) (frontends : List StoredFrontend) → AllByRecursion (λ own. IsFew (length own.rows)) frontends → rows_total (row_on id key) frontends ≤ 0x300_0000_0000_0000 * length frontends
all_few id key [] small = omega arith
all_few id key (own ∷ frontends) small =
    let here = rows_few id key own.rows in
    let less : length own.rows < 0x100_0000_0000_0000 = small.0 in
    let more = all_few id key frontends small.1 in
    omega (arith, here, less, more)

pub cur_few : (frontends : List StoredFrontend) (tables : List StoredTable) → AreRows frontends tables → (id : TableId) (key : Addr) → cur_in id key tables < 0xFFFF_FFFF_FFFF_FFFF
cur_few frontends tables known id key =
    let is = known.counted id key in
    let most = all_few id key frontends known.small in
    let few : length frontends ≤ 64 = known.few in
    omega (arith, is, most, few)

-- at most three for each row
pub counts_few : (versions : List Version) (frontends : List StoredFrontend) (tables : List StoredTable) (addr : Addr) (o : Option TableState) → AreRows frontends tables →
    IfSome (option_map (entry_counts (open_tracks (map (plain_frontend versions) frontends)) addr) o) (λ counts. counts.cur ≤ 3 * 2 ^ 62)
counts_few versions frontends tables addr None known = tt
counts_few versions frontends tables addr (Some table) known = by (key_in table.table.kind addr)
  where
    by : (key : Option Addr) → option_map_or (trackers (open_tracks (map (plain_frontend versions) frontends)) table.id) key 0 ≤ 3 * 2 ^ 62
    by None = omega arith
    by (Some key) =
        let is = open_trackers versions frontends table.id key in
        let most = all_few table.id key frontends known.small in
        let few : length frontends ≤ 64 = known.few in
        omega (arith, is, most, few)

-- One tracking more.

-- a frontend tracks one key more, and so do the tables
pub more_rows : (frontends : List StoredFrontend) (tables rest : List StoredTable) (n : ℕ) (own next : StoredFrontend) (tracking : Tracking) → slice_get frontends n ≡ Some own → IsFew (length next.rows) →
    ((id : TableId) (key : Addr) → total (row_on id key) next.rows ≡ total (row_on id key) own.rows + counter_on id key (Some tracking)) →
    ((id : TableId) (key : Addr) → cur_in id key rest ≡ cur_in id key tables + counter_on id key (Some tracking)) → AreRows frontends tables → AreRows (set frontends n next) rest
more_rows frontends tables rest n own next tracking there small rows counts =
    grown_rows frontends tables rest n own next (λ id key. counter_on id key (Some tracking)) there small rows counts

-- as many track each key of a table as with one track more
pub trackers_more : (versions : List Version) (frontends : List StoredFrontend) (n : ℕ) (own next : StoredFrontend) (track : Track) → slice_get frontends n ≡ Some own →
    ((id : TableId) (key : Addr) → total (row_on id key) next.rows ≡ total (row_on id key) own.rows + counter_on id key (Some (record { table = track.table; token = track.key }))) →
    (id : TableId) (key : Addr) → trackers (open_tracks (map (plain_frontend versions) (set frontends n next))) id key ≡ trackers (open_tracks (map (plain_frontend versions) frontends) ++ track ∷ []) id key
trackers_more versions frontends n own next track there rows id key =
    let all : rows_total (row_on id key) (set frontends n next) + total (row_on id key) own.rows ≡ rows_total (row_on id key) frontends + total (row_on id key) next.rows =
    total-set (λ own. total (row_on id key) own.rows) frontends n own next there in
    let more = rows id key in
    let now = open_trackers versions (set frontends n next) id key in
    let before = open_trackers versions frontends id key in
    let both = trackers-append (open_tracks (map (plain_frontend versions) frontends)) (track ∷ []) id key in
    let one : trackers (track ∷ []) id key ≡ counter_on id key (Some (record { table = track.table; token = track.key })) = trackers_on track.counter (Some (record { table = track.table; token = track.key })) id key in
    omega (arith, all, more, now, before, both, one)
