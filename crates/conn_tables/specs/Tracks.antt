-- What open connections track.
use Rattle.std.specs.Prelude.{ℕ, List, [], ◌∷◌, ◌++◌, Option, Some, None, ◌+◌, ◌==◌, ◌&&◌, if◌then◌else◌, find}
use Rattle.addr_core.specs.declared.addr.Addr.{Addr}
use Rattle.addr_core.specs.Same.{same_addr}
use Rattle.plan_types.specs.declared.track.TableId.{TableId}
use Rattle.plan_types.specs.declared.track.Track.{Track}
use Rattle.conn_model.specs.Tables.{same_id}
use Rattle.conn_tables.specs.declared.tracking.Tracking.{Tracking}
use Rattle.conn_tables.specs.declared.tracking.Trackings.{Trackings}

abbrev pub no_trackings : Trackings
no_trackings = record { sc0 = None; sc1 = None; sc2 = None }

abbrev pub track_by : ℕ → Tracking → Track
track_by counter tracking = record { counter = counter; table = tracking.table; key = tracking.token }

-- what a counter tracks
abbrev pub track_on : ℕ → Option Tracking → List Track
track_on counter None = []
track_on counter (Some tracking) = track_by counter tracking ∷ []

-- in the order of counters
abbrev pub plain_tracks : Trackings → List Track
plain_tracks tracks = track_on 0 tracks.sc0 ++ track_on 1 tracks.sc1 ++ track_on 2 tracks.sc2

-- 1 if it is a tracking of that key of the table
abbrev pub counter_on : TableId → Addr → Option Tracking → ℕ
counter_on id key None = 0
counter_on id key (Some tracking) = if same_id tracking.table id && same_addr tracking.token key then 1 else 0

-- how many counters track that key of the table
abbrev pub tracks_on : TableId → Addr → Trackings → ℕ
tracks_on id key tracks = counter_on id key tracks.sc0 + counter_on id key tracks.sc1 + counter_on id key tracks.sc2

-- the track of a counter
abbrev pub track_of : ℕ → List Track → Option Track
track_of counter tracks = find (λ track. track.counter == counter) tracks

-- a slot for each counter
abbrev pub slots_of : List Track → List (Option Track)
slots_of tracks = track_of 0 tracks ∷ track_of 1 tracks ∷ track_of 2 tracks ∷ []

-- One tracking more.

abbrev pub on_counter : ℕ → Trackings → Option Tracking
on_counter counter tracks = if counter == 0 then tracks.sc0 else if counter == 1 then tracks.sc1 else tracks.sc2

abbrev pub at_counter : ℕ → Tracking → Trackings → Trackings
at_counter counter tracking tracks =
    if counter == 0 then record tracks { sc0 = Some tracking } else if counter == 1 then record tracks { sc1 = Some tracking } else record tracks { sc2 = Some tracking }
