-- A connection that tracks more, one key after the other.
use Rattle.std.proofs.Common.{◌≡◌, ℕ, zero, suc, ◌+◌, ◌-◌, ◌<◌, ◌≤◌, Bool, true, false, List, [], ◌∷◌, ◌++◌, length, drop, Option, Some, None, get_or, refl, ◌∙◌, sym, ap, subst, arith, append_assoc, append-nil}
use Rattle.std.specs.Prelude.{filter, find, slice_get, slice_set, option_map, IsSome, IfSome, ◌==◌, if◌then◌else◌}
use Rattle.std.specs.List.{AllByRecursion}
use Rattle.std.specs.Option.{option_map_or}
use Rattle.std.proofs.Math.Path.{fun_ext}
use Rattle.std.proofs.lemmas.Bool.{false≢true, eqb-true}
use Rattle.std.proofs.lemmas.Bool.Decides.{nat_tests}
use Rattle.std.proofs.lemmas.List.{drop_all, drop_more}
use Rattle.std.proofs.lemmas.List.Folds.{find-append}
use Rattle.std.proofs.lemmas.Option.{slice_get-get_or}
use Rattle.addr_core.specs.declared.addr.Addr.{Addr}
use Rattle.plan_types.specs.declared.track.Track.{Track}
use Rattle.rule_engine.specs.Judging.{TrackSlots}
use Rattle.rule_engine.specs.Meaning.{present}
use Rattle.conn_model.specs.declared.event.ConnId.{ConnId}
use Rattle.conn_model.specs.declared.plain.Row.{Row}
use Rattle.conn_model.specs.declared.plain.FrontendRows.{FrontendRows}
use Rattle.conn_model.specs.declared.plain.TableState.{TableState}
use Rattle.conn_model.specs.Counts.{change_row}
use Rattle.conn_model.specs.Tables.{by_counter, open_tracks, tracks_at, with_track, with_tracks}
use Rattle.conn_model.specs.Words.{row_at}
use Rattle.conn_model.proofs.Parts.{by_counter-append, by_counter-twice}
use Rattle.conn_model.specs.Changes.{row_tracking, with_conn, with_row}
use Rattle.conn_rows.specs.Tables.{key_at}
use Rattle.conn_rows.specs.Tracks.{track_of}
use Rattle.conn_rows.specs.Value.{RowsValue}
use Rattle.conn_model.proofs.Changes.{changed_twice, own_changed, row_changed}
use Rattle.conn_core.specs.Counts.{IsSorted}
use Rattle.conn_core.specs.Tracking.{row_with, ArePossible, AreSorted, IsPossible}
use Rattle.conn_core.proofs.PossibleLemmas.{key_at-itself, still_possible, with_tracks-alike, AreAlike}

-- One connection changed.

set-same : {X : Type 0} (xs : List X) (n : ℕ) (x : X) → slice_get xs n ≡ Some x → slice_set xs n x ≡ xs
set-same [] n x there = refl
set-same (z ∷ xs) zero x there = let same : z ≡ x = let it : Some z ≡ Some x = there in cc in ap (λ y. y ∷ xs) (sym same)
set-same (z ∷ xs) (suc n) x there = ap (λ ys. z ∷ ys) (set-same xs n x there)

rows_sorted : (serial : ℕ) (change : Row → Row) (rows : List Row) → ((row : Row) → by_counter row.tracks ≡ row.tracks → by_counter (change row).tracks ≡ (change row).tracks) →
    ((row : Row) → (change row).serial ≡ row.serial) → AllByRecursion (λ row. row.serial ≡ serial → by_counter row.tracks ≡ row.tracks) rows →
    AllByRecursion (λ row. row.serial ≡ serial → by_counter row.tracks ≡ row.tracks) (change_row serial change rows)
rows_sorted serial change [] sorts keeps all = tt
rows_sorted serial change (row ∷ rows) sorts keeps all = (one (row.serial == serial) refl, rows_sorted serial change rows sorts keeps all.1)
  where
    one : (b : Bool) → (row.serial == serial) ≡ b → (if b then change row else row).serial ≡ serial → by_counter (if b then change row else row).tracks ≡ (if b then change row else row).tracks
    one true e is = sorts row (all.0 (sym (keeps row) ∙ is))
    one false e is = all.0 is

-- a change that leaves tracks by counter leaves a connection sorted
pub still_sorted : (id : ConnId) (change : Row → Row) (frontends : List FrontendRows) → ((row : Row) → by_counter row.tracks ≡ row.tracks → by_counter (change row).tracks ≡ (change row).tracks) →
    ((row : Row) → (change row).serial ≡ row.serial) → AreSorted frontends id → AreSorted (with_conn id change frontends) id
still_sorted id change frontends sorts keeps sorted own there = by (slice_get frontends id.frontend) refl
  where
    P : FrontendRows → Type 0
    P f = AllByRecursion (λ row. row.serial ≡ id.serial → by_counter row.tracks ≡ row.tracks) f.rows

    by : (o : Option FrontendRows) → slice_get frontends id.frontend ≡ o → P own
    by None none = absurd (let wrong : None ≡ Some own = ap (option_map (with_row id.serial change)) (sym none) ∙ sym (own_changed id change frontends) ∙ there in cc)
    by (Some old) was =
        let same : with_row id.serial change old ≡ own =
        let it : Some (with_row id.serial change old) ≡ Some own = ap (option_map (with_row id.serial change)) (sym was) ∙ sym (own_changed id change frontends) ∙ there in cc in
        subst P same (rows_sorted id.serial change old.rows sorts keeps (sorted old was))

-- the rows of a frontend that is sorted are
pub sorted_rows : (frontends : List FrontendRows) (id : ConnId) → ((own : FrontendRows) → slice_get frontends id.frontend ≡ Some own → IsSorted own) → AreSorted frontends id
sorted_rows frontends id sorted own there = all own.rows (sorted own there).sorted
  where
    all : (rows : List Row) → AllByRecursion (λ row. by_counter row.tracks ≡ row.tracks) rows → AllByRecursion (λ row. row.serial ≡ id.serial → by_counter row.tracks ≡ row.tracks) rows
    all [] each = tt
    all (row ∷ rows) each = (λ is. each.0, all rows each.1)

-- Tracks.

-- no track more
rows_same : (serial : ℕ) (rows : List Row) → AllByRecursion (λ row. row.serial ≡ serial → by_counter row.tracks ≡ row.tracks) rows → change_row serial (row_with []) rows ≡ rows
rows_same serial [] all = refl
rows_same serial (row ∷ rows) all = by (row.serial == serial) refl (rows_same serial rows all.1)
  where
    by : (b : Bool) → (row.serial == serial) ≡ b → change_row serial (row_with []) rows ≡ rows → change_row serial (row_with []) (row ∷ rows) ≡ row ∷ rows
    by true e more =
        let tracks : by_counter (row.tracks ++ []) ≡ row.tracks = ap by_counter (append-nil row.tracks) ∙ all.0 (eqb-true row.serial serial e) in
        let same : row_with [] row ≡ row = ap (λ ts. record row { tracks = ts }) tracks in
        rw e (ap (λ r. r ∷ change_row serial (row_with []) rows) same ∙ ap (λ rs. row ∷ rs) more)
    by false e more = rw e (ap (λ rs. row ∷ rs) more)

pub none_more : (id : ConnId) (frontends : List FrontendRows) → AreSorted frontends id → with_conn id (row_with []) frontends ≡ frontends
none_more id frontends sorted = by (slice_get frontends id.frontend) refl
  where
    by : (o : Option FrontendRows) → slice_get frontends id.frontend ≡ o → with_conn id (row_with []) frontends ≡ frontends
    by None none = rw none refl
    by (Some own) there =
        let same : with_row id.serial (row_with []) own ≡ own = ap (λ rows. record own { rows = rows }) (rows_same id.serial own.rows (sorted own there)) in
        rw there (ap (slice_set frontends id.frontend) same ∙ set-same frontends id.frontend own there)

-- one track more, and then the rest
pub one_then_more : (id : ConnId) (track : Track) (rest : List Track) (frontends : List FrontendRows) →
    with_conn id (row_with rest) (with_conn id (row_tracking track) frontends) ≡ with_conn id (row_with (track ∷ rest)) frontends
one_then_more id track rest frontends =
    let both : (λ row. row_with rest (row_tracking track row)) ≡ row_with (track ∷ rest) = fun_ext one in
    changed_twice id (row_tracking track) (row_with rest) frontends (λ row. refl) ∙ ap (λ (change : Row → Row). with_conn id change frontends) both
  where
    one : (row : Row) → row_with rest (row_tracking track row) ≡ row_with (track ∷ rest) row
    one row = ap (λ ts. record row { tracks = ts }) (by_counter-append (row.tracks ++ track ∷ []) rest ∙ ap by_counter (append_assoc row.tracks (track ∷ []) rest))

-- Free counters.

find-filter : {X : Type 0} (p q : X → Bool) (xs : List X) → find p xs ≡ None → find p (filter q xs) ≡ None
find-filter p q [] none = refl
find-filter p q (x ∷ xs) none = by (p x) refl (q x) refl none (find-filter p q xs)
  where
    by : (b : Bool) → p x ≡ b → (d : Bool) → q x ≡ d → find p (x ∷ xs) ≡ None → (find p xs ≡ None → find p (filter q xs) ≡ None) → find p (filter q (x ∷ xs)) ≡ None
    by true is d e none more = absurd (let wrong : Some x ≡ None = rw is at none in cc)
    by false is true e none more = rw (e, is) (more (rw is at none))
    by false is false e none more = rw e (more (rw is at none))

none_in : {X : Type 0} (p : X → Bool) (xs ys : List X) → find p xs ≡ None → find p ys ≡ None → find p (xs ++ ys) ≡ None
none_in p xs ys first second = find-append p xs ys ∙ rw (first, second) refl

-- a counter that is free is so by counter too
free_by_counter : (p : Track → Bool) (tracks : List Track) → find p tracks ≡ None → find p (by_counter tracks) ≡ None
free_by_counter p tracks none =
    none_in p (filter (λ (t : Track). t.counter == 0) tracks ++ filter (λ (t : Track). t.counter == 1) tracks) (filter (λ (t : Track). t.counter == 2) tracks)
    (none_in p (filter (λ (t : Track). t.counter == 0) tracks) (filter (λ (t : Track). t.counter == 1) tracks) (find-filter p (λ (t : Track). t.counter == 0) tracks none) (find-filter p (λ (t : Track). t.counter == 1) tracks none))
    (find-filter p (λ (t : Track). t.counter == 2) tracks none)

-- once another counter tracks, a free one is free still
still_free : (counter : ℕ) (track : Track) (tracks : List Track) → track.counter < counter → track_of counter tracks ≡ None → track_of counter (by_counter (tracks ++ track ∷ [])) ≡ None
still_free counter track tracks less free =
    let other : (track.counter == counter) ≡ false = grind (arith, nat_tests, less) in
    free_by_counter (λ (t : Track). t.counter == counter) (tracks ++ track ∷ []) (none_in (λ (t : Track). t.counter == counter) tracks (track ∷ []) free (rw other refl))

-- The slots from one on can be tracked.

pub record CanTrack (frontends : List FrontendRows) (tables : List TableState) (id : ConnId) (source : Addr) (from : ℕ) (slots : TrackSlots) : Type 0 where
  pub there : IsSome (row_at frontends id)
  pub sorted : AreSorted frontends id
  pub each : (counter : ℕ) (track : Track) → from ≤ counter → slice_get slots counter ≡ Some (Some track) → IsPossible (open_tracks frontends) tables (tracks_at frontends id) source counter track

next_slots : (frontends : List FrontendRows) (tables : List TableState) (id : ConnId) (source : Addr) (from : ℕ) (slots : TrackSlots) → CanTrack frontends tables id source from slots →
    CanTrack frontends tables id source (from + 1) slots
next_slots frontends tables id source from slots can = record { there = can.there; sorted = can.sorted; each = λ counter track less is. can.each counter track (omega (arith, less)) is }

-- what the connection tracks, once it tracks one key more
tracks_more : (frontends : List FrontendRows) (id : ConnId) (track : Track) → IsSome (row_at frontends id) → tracks_at (with_conn id (row_tracking track) frontends) id ≡ by_counter (tracks_at frontends id ++ track ∷ [])
tracks_more frontends id track there = by (row_at frontends id) refl there
  where
    by : (o : Option Row) → row_at frontends id ≡ o → IsSome o → tracks_at (with_conn id (row_tracking track) frontends) id ≡ by_counter (tracks_at frontends id ++ track ∷ [])
    by None none some = absurd (false≢true some)
    by (Some row) is some =
        let now : row_at (with_conn id (row_tracking track) frontends) id ≡ Some (row_tracking track row) = row_changed id (row_tracking track) frontends (λ row. refl) ∙ ap (option_map (row_tracking track)) is in
        rw (now, is) refl

some_map : (o : Option Row) (f : Row → Row) → IsSome o → IsSome (option_map f o)
some_map None f some = some
some_map (Some row) f some = some

-- once a slot is tracked, the next ones can be
pub can_next : (moment : ℕ) (frontends : List FrontendRows) (after : List FrontendRows) (tables : List TableState) (id : ConnId) (source : Addr) (from : ℕ) (slots : TrackSlots) (track : Track) →
    CanTrack frontends tables id source from slots → slice_get slots from ≡ Some (Some track) → after ≡ with_conn id (row_tracking track) frontends →
    AreAlike (open_tracks after) (open_tracks frontends ++ track ∷ []) → CanTrack after (with_track moment (open_tracks frontends) track tables) id source (from + 1) slots
can_next moment frontends after tables id source from slots track can is made alike = record {
  there = subst (λ o. IsSome o) (sym (ap (λ fs. row_at fs id) made ∙ row_changed id (row_tracking track) frontends (λ row. refl))) (some_map (row_at frontends id) (row_tracking track) can.there);
  sorted = subst (λ fs. AreSorted fs id) (sym made) (still_sorted id (row_tracking track) frontends (λ row e. by_counter-twice (row.tracks ++ track ∷ [])) (λ row. refl) can.sorted);
  each = each;
}
  where
    own : IsPossible (open_tracks frontends) tables (tracks_at frontends id) source from track
    own = can.each from track (omega arith) is

    tracks : tracks_at after id ≡ by_counter (tracks_at frontends id ++ track ∷ [])
    tracks = ap (λ fs. tracks_at fs id) made ∙ tracks_more frontends id track can.there

    each : (counter : ℕ) (other : Track) → from + 1 ≤ counter → slice_get slots counter ≡ Some (Some other) →
        IsPossible (open_tracks after) (with_track moment (open_tracks frontends) track tables) (tracks_at after id) source counter other
    each counter other less there =
        let old : IsPossible (open_tracks frontends) tables (tracks_at frontends id) source counter other = can.each counter other (omega (arith, less)) there in
        let own_counter : track.counter ≡ from = own.counter_is in
        let lower : track.counter < counter = omega (arith, less, own_counter) in
        record {
          counter_is = old.counter_is;
          below = old.below;
          free = ap (track_of counter) tracks ∙ still_free counter track (tracks_at frontends id) lower old.free;
          key = still_possible moment (open_tracks frontends) (open_tracks after) tables track other.table source other.key own.key old.key alike;
        }

-- As far as the slots were tracked one after the other: to track the rest gives what is to come of them all.
pub record IsTracked (start now : RowsValue) (id : ConnId) (from : ℕ) (slots : TrackSlots) : Type 0 where
  pub frontends : with_conn id (row_with (present (drop from slots))) now.frontends ≡ with_conn id (row_with (present slots)) start.frontends
  pub versions : now.versions ≡ start.versions
  pub down : now.down ≡ start.down
  pub clock : now.clock ≡ start.clock
  pub tables : with_tracks now.clock (open_tracks now.frontends) (present (drop from slots)) now.tables ≡ with_tracks start.clock (open_tracks start.frontends) (present slots) start.tables
  pub can : (source : Addr) × CanTrack now.frontends now.tables id source from slots
  pub room : 3 ≤ now.spare + from

-- the next slot, and those after it
pub record IsNext (slots : TrackSlots) (from : ℕ) (slot : Option Track) : Type 0 where
  pub there : slice_get slots from ≡ Some slot
  pub rest : drop from slots ≡ slot ∷ drop (from + 1) slots
  pub below : from < 3

pub next_slot : (slots : TrackSlots) (from : ℕ) (slot : Option Track) → length slots ≡ 3 → from < 3 → get_or slots from None ≡ slot → IsNext slots from slot
next_slot slots from slot three below is =
    let within : from < length slots = omega (arith, three, below) in
    record {
      there = slice_get-get_or slots from None within ∙ ap Some is;
      rest = drop_more slots from None within ∙ ap (λ s. s ∷ drop (from + 1) slots) is;
      below = below;
    }

-- nothing was tracked yet
pub none_yet : (rows : RowsValue) (id : ConnId) (slots : TrackSlots) → IsSome (row_at rows.frontends id) → AreSorted rows.frontends id →
    (source : Addr) × ArePossible (open_tracks rows.frontends) rows.tables (tracks_at rows.frontends id) source slots → 3 ≤ rows.spare → IsTracked rows rows id 0 slots
none_yet rows id slots there sorted can room = record {
  frontends = refl;
  versions = refl;
  clock = refl;
  down = refl;
  tables = refl;
  can = (can.0, record { there = there; sorted = sorted; each = λ counter track less is. can.1.each counter track is });
  room = omega (arith, room);
}

-- what the next slot tracks can be tracked
possible : (start now : RowsValue) (id : ConnId) (from : ℕ) (slots : TrackSlots) (track : Track) → IsTracked start now id from slots → IsNext slots from (Some track) →
    (source : Addr) × IsPossible (open_tracks now.frontends) now.tables (tracks_at now.frontends id) source from track
possible start now id from slots track known next = (known.can.0, known.can.1.each from track (omega arith) next.there)

pub counter_below : (start now : RowsValue) (id : ConnId) (from : ℕ) (slots : TrackSlots) (track : Track) → IsTracked start now id from slots → IsNext slots from (Some track) → track.counter < 3
counter_below start now id from slots track known next =
    let own = possible start now id from slots track known next in
    let is = own.1.counter_is in
    let below = own.1.below in
    omega (arith, is, below)

pub counter_free : (start now : RowsValue) (id : ConnId) (from : ℕ) (slots : TrackSlots) (track : Track) → IsTracked start now id from slots → IsNext slots from (Some track) →
    IfSome (row_at now.frontends id) (λ row. track_of track.counter row.tracks ≡ None)
counter_free start now id from slots track known next =
    let own = possible start now id from slots track known next in
    by (row_at now.frontends id) (ap (λ n. track_of n (tracks_at now.frontends id)) own.1.counter_is ∙ own.1.free)
  where
    by : (o : Option Row) → track_of track.counter (option_map_or (λ row. row.tracks) o []) ≡ None → IfSome o (λ row. track_of track.counter row.tracks ≡ None)
    by None free = tt
    by (Some row) free = free

pub key_possible : (start now : RowsValue) (id : ConnId) (from : ℕ) (slots : TrackSlots) (track : Track) → IsTracked start now id from slots → IsNext slots from (Some track) →
    key_at (open_tracks now.frontends) now.tables track.table track.key ≡ Some track.key
key_possible start now id from slots track known next =
    let own = possible start now id from slots track known next in
    key_at-itself (open_tracks now.frontends) now.tables track.table own.0 track.key own.1.key

-- an empty slot
pub after_empty_slot : (start now : RowsValue) (id : ConnId) (from : ℕ) (slots : TrackSlots) → IsNext slots from None → IsTracked start now id from slots → IsTracked start now id (from + 1) slots
after_empty_slot start now id from slots next known =
    let same : present (drop from slots) ≡ present (drop (from + 1) slots) = ap present next.rest in
    let room = known.room in
    record {
      frontends = ap (λ ts. with_conn id (row_with ts) now.frontends) (sym same) ∙ known.frontends;
      versions = known.versions;
      down = known.down;
      clock = known.clock;
      tables = ap (λ ts. with_tracks now.clock (open_tracks now.frontends) ts now.tables) (sym same) ∙ known.tables;
      can = (known.can.0, next_slots now.frontends now.tables id known.can.0 from slots known.can.1);
      room = omega (arith, room);
    }

-- a slot that is tracked
pub after_slot : (start now after : RowsValue) (id : ConnId) (from : ℕ) (slots : TrackSlots) (track : Track) → IsNext slots from (Some track) →
    after ≡ record now { frontends = with_conn id (row_tracking track) now.frontends; tables = with_track now.clock (open_tracks now.frontends) track now.tables; spare = now.spare - 1 } →
    AreAlike (open_tracks after.frontends) (open_tracks now.frontends ++ track ∷ []) → IsTracked start now id from slots → IsTracked start after id (from + 1) slots
after_slot start now after id from slots track next made alike known =
    let same : present (drop from slots) ≡ track ∷ present (drop (from + 1) slots) = ap present next.rest in
    let fronts : after.frontends ≡ with_conn id (row_tracking track) now.frontends = ap (λ (r : RowsValue). r.frontends) made in
    let clock : after.clock ≡ now.clock = ap (λ (r : RowsValue). r.clock) made in
    let tables : after.tables ≡ with_track now.clock (open_tracks now.frontends) track now.tables = ap (λ (r : RowsValue). r.tables) made in
    let room = known.room in
    let spare : after.spare ≡ now.spare - 1 = ap (λ (r : RowsValue). r.spare) made in
    let rest : List Track = present (drop (from + 1) slots) in
    record {
      frontends = ap (with_conn id (row_with rest)) fronts ∙ one_then_more id track rest now.frontends ∙ ap (λ ts. with_conn id (row_with ts) now.frontends) (sym same) ∙ known.frontends;
      versions = ap (λ (r : RowsValue). r.versions) made ∙ known.versions;
      down = ap (λ (r : RowsValue). r.down) made ∙ known.down;
      clock = clock ∙ known.clock;
      tables = ap (λ n. with_tracks n (open_tracks after.frontends) rest after.tables) clock ∙ ap (with_tracks now.clock (open_tracks after.frontends) rest) tables
          ∙ with_tracks-alike now.clock (open_tracks after.frontends) (open_tracks now.frontends ++ track ∷ []) rest (with_track now.clock (open_tracks now.frontends) track now.tables) alike
          ∙ ap (λ ts. with_tracks now.clock (open_tracks now.frontends) ts now.tables) (sym same) ∙ known.tables;
      can = (
        known.can.0,
        subst (λ ts. CanTrack after.frontends ts id known.can.0 (from + 1) slots) (sym tables) (can_next now.clock now.frontends after.frontends now.tables id known.can.0 from slots track known.can.1 next.there fronts alike),
      );
      room = let below = next.below in omega (arith, room, spare, below);
    }

-- all slots
pub all_tracked : (start now : RowsValue) (id : ConnId) (from : ℕ) (slots : TrackSlots) → length slots ≡ 3 → 3 ≤ from → IsTracked start now id from slots →
    (now.frontends ≡ with_conn id (row_with (present slots)) start.frontends) × (now.tables ≡ with_tracks start.clock (open_tracks start.frontends) (present slots) start.tables)
all_tracked start now id from slots three past known =
    let none : present (drop from slots) ≡ [] = ap present (drop_all from slots (omega (arith, three, past))) in (
      sym (none_more id now.frontends known.can.1.sorted) ∙ ap (λ ts. with_conn id (row_with ts) now.frontends) (sym none) ∙ known.frontends,
      ap (λ ts. with_tracks now.clock (open_tracks now.frontends) ts now.tables) (sym none) ∙ known.tables,
    )
