-- What the counters of a connection track.
use Rattle.std.proofs.Common.{◌≡◌, ℕ, zero, suc, ◌+◌, Bool, true, false, [], ◌∷◌, ◌++◌, length, Option, Some, None, refl, ap, arith}
use Rattle.std.specs.Prelude.{◌<◌, ◌≤◌, ◌&&◌, if◌then◌else◌}
use Rattle.addr_core.specs.declared.addr.Addr.{Addr}
use Rattle.addr_core.specs.Same.{same_addr}
use Rattle.plan_types.specs.declared.track.TableId.{TableId}
use Rattle.plan_types.specs.declared.track.Track.{Track}
use Rattle.conn_model.proofs.Trackers.{trackers-append}
use Rattle.conn_model.specs.Tables.{by_counter, same_id, trackers}
use Rattle.conn_tables.specs.declared.tracking.Tracking.{Tracking}
use Rattle.conn_tables.specs.declared.tracking.Trackings.{Trackings}
use Rattle.conn_tables.specs.Tracks.{at_counter, counter_on, on_counter, plain_tracks, track_by, track_of, track_on, tracks_on}

-- As tracks.

pub trackers_on : (counter : ℕ) (tracking : Option Tracking) (id : TableId) (key : Addr) → trackers (track_on counter tracking) id key ≡ counter_on id key tracking
trackers_on counter None id key = refl
trackers_on counter (Some tracking) id key = by (same_id tracking.table id && same_addr tracking.token key)
  where
    by : (b : Bool) → length {A = Track} (if b then track_by counter tracking ∷ [] else []) ≡ (if b then 1 else 0)
    by true = refl
    by false = refl

pub tracks_trackers : (tracks : Trackings) (id : TableId) (key : Addr) → trackers (plain_tracks tracks) id key ≡ tracks_on id key tracks
tracks_trackers tracks id key =
    let both = trackers-append (track_on 0 tracks.sc0) (track_on 1 tracks.sc1) id key in
    let all = trackers-append (track_on 0 tracks.sc0 ++ track_on 1 tracks.sc1) (track_on 2 tracks.sc2) id key in
    let zero = trackers_on 0 tracks.sc0 id key in
    let one = trackers_on 1 tracks.sc1 id key in
    let two = trackers_on 2 tracks.sc2 id key in
    omega (arith, both, all, zero, one, two)

pub counter_few : (id : TableId) (key : Addr) (tracking : Option Tracking) → counter_on id key tracking ≤ 1
counter_few id key None = omega arith
counter_few id key (Some tracking) = by (same_id tracking.table id && same_addr tracking.token key)
  where
    by : (b : Bool) → (if b then 1 else 0) ≤ 1
    by true = omega arith
    by false = omega arith

-- One tracking more.

pub counters_more : (counter : ℕ) (tracking : Tracking) (tracks : Trackings) (id : TableId) (key : Addr) → counter < 3 → on_counter counter tracks ≡ None →
    tracks_on id key (at_counter counter tracking tracks) ≡ tracks_on id key tracks + counter_on id key (Some tracking)
counters_more zero tracking tracks id key less free = let none : counter_on id key tracks.sc0 ≡ 0 = ap (counter_on id key) free in omega (arith, none)
counters_more (suc zero) tracking tracks id key less free = let none : counter_on id key tracks.sc1 ≡ 0 = ap (counter_on id key) free in omega (arith, none)
counters_more (suc (suc zero)) tracking tracks id key less free = let none : counter_on id key tracks.sc2 ≡ 0 = ap (counter_on id key) free in omega (arith, none)
counters_more (suc (suc (suc counter))) tracking tracks id key less free = absurd (omega (arith, less))

pub plain_tracking : (counter : ℕ) (tracking : Tracking) (tracks : Trackings) → counter < 3 → on_counter counter tracks ≡ None →
    plain_tracks (at_counter counter tracking tracks) ≡ by_counter (plain_tracks tracks ++ track_by counter tracking ∷ [])
plain_tracking zero tracking tracks less free = by tracks.sc0 tracks.sc1 tracks.sc2 free
  where
    by : (a b c : Option Tracking) → a ≡ None →
        track_on 0 (Some tracking) ++ track_on 1 b ++ track_on 2 c ≡ by_counter ((track_on 0 a ++ track_on 1 b ++ track_on 2 c) ++ track_by 0 tracking ∷ [])
    by None None None free = refl
    by None None (Some c) free = refl
    by None (Some b) None free = refl
    by None (Some b) (Some c) free = refl
    by (Some a) b c free = absurd (cc)
plain_tracking (suc zero) tracking tracks less free = by tracks.sc0 tracks.sc1 tracks.sc2 free
  where
    by : (a b c : Option Tracking) → b ≡ None →
        track_on 0 a ++ track_on 1 (Some tracking) ++ track_on 2 c ≡ by_counter ((track_on 0 a ++ track_on 1 b ++ track_on 2 c) ++ track_by 1 tracking ∷ [])
    by None None None free = refl
    by None None (Some c) free = refl
    by (Some a) None None free = refl
    by (Some a) None (Some c) free = refl
    by a (Some b) c free = absurd (cc)
plain_tracking (suc (suc zero)) tracking tracks less free = by tracks.sc0 tracks.sc1 tracks.sc2 free
  where
    by : (a b c : Option Tracking) → c ≡ None →
        track_on 0 a ++ track_on 1 b ++ track_on 2 (Some tracking) ≡ by_counter ((track_on 0 a ++ track_on 1 b ++ track_on 2 c) ++ track_by 2 tracking ∷ [])
    by None None None free = refl
    by None (Some b) None free = refl
    by (Some a) None None free = refl
    by (Some a) (Some b) None free = refl
    by a b (Some c) free = absurd (cc)
plain_tracking (suc (suc (suc counter))) tracking tracks less free = absurd (omega (arith, less))

-- a counter that tracks nothing in the plain row
pub free_counter : (counter : ℕ) (tracks : Trackings) → counter < 3 → track_of counter (plain_tracks tracks) ≡ None → on_counter counter tracks ≡ None
free_counter zero tracks less free = by tracks.sc0 tracks.sc1 tracks.sc2 free
  where
    by : (a b c : Option Tracking) → track_of 0 (track_on 0 a ++ track_on 1 b ++ track_on 2 c) ≡ None → a ≡ None
    by None b c free = refl
    by (Some a) None None free = absurd (cc)
    by (Some a) None (Some c) free = absurd (cc)
    by (Some a) (Some b) None free = absurd (cc)
    by (Some a) (Some b) (Some c) free = absurd (cc)
free_counter (suc zero) tracks less free = by tracks.sc0 tracks.sc1 tracks.sc2 free
  where
    by : (a b c : Option Tracking) → track_of 1 (track_on 0 a ++ track_on 1 b ++ track_on 2 c) ≡ None → b ≡ None
    by a None c free = refl
    by None (Some b) None free = absurd (cc)
    by None (Some b) (Some c) free = absurd (cc)
    by (Some a) (Some b) None free = absurd (cc)
    by (Some a) (Some b) (Some c) free = absurd (cc)
free_counter (suc (suc zero)) tracks less free = by tracks.sc0 tracks.sc1 tracks.sc2 free
  where
    by : (a b c : Option Tracking) → track_of 2 (track_on 0 a ++ track_on 1 b ++ track_on 2 c) ≡ None → c ≡ None
    by a b None free = refl
    by None None (Some c) free = absurd (cc)
    by None (Some b) (Some c) free = absurd (cc)
    by (Some a) None (Some c) free = absurd (cc)
    by (Some a) (Some b) (Some c) free = absurd (cc)
free_counter (suc (suc (suc counter))) tracks less free = absurd (omega (arith, less))
