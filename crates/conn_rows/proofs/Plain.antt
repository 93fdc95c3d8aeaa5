-- The plain state of what is stored.
use Rattle.std.proofs.Common.{◌≡◌, ℕ, zero, suc, ◌+◌, ◌<◌, Bool, true, false, not, List, [], ◌∷◌, ◌++◌, length, map, set, get_or, Option, Some, None, refl, sym, ap, subst, ◌∙◌, arith}
use Rattle.std.specs.Prelude.{slice_get, slice_set, filter, find, ◌==◌, if◌then◌else◌, IsSome, option_map, option_and_then}
use Rattle.std.specs.Prelude.{IfSome, ◌-◌}
use Rattle.std.specs.Option.{option_map_or}
use Rattle.std.proofs.lemmas.List.{map-append, map-set}
use Rattle.std.proofs.lemmas.Option.{get_or_from_slice_get, slice_get_read, slice_get_within}
use Rattle.std.specs.List.{AllByRecursion}
use Rattle.std.proofs.lemmas.Bool.Decides.{nat_tests}
use Rattle.conn_model.specs.Words.{Rise}
use Rattle.conn_model.specs.Counts.{change_row}
use Rattle.conn_model.proofs.Lists.{all-at, all-more}
use Rattle.addr_core.specs.PairValue.{PairValue}
use Rattle.conn_model.specs.declared.event.ConnId.{ConnId}
use Rattle.conn_model.specs.declared.plain.Assignment.{Assignment}
use Rattle.conn_model.specs.declared.plain.Phase.TheVariants as phases
use Rattle.plan_types.specs.declared.plan.TheConstants.{MOST_MOVES}
use Rattle.conn_model.specs.declared.plain.Row.{Row}
use Rattle.conn_model.specs.declared.plain.FrontendRows.{FrontendRows}
use Rattle.plan_types.specs.declared.plan.Frontend.{Frontend}
use Rattle.plan_types.specs.declared.plan.Plan.{Plan}
use Rattle.conn_model.specs.History.{new_version, opening, phase_up, tracks_at, with_offer}
use Rattle.slot_core.specs.declared.slots.SlotIx.{SlotIx}
use Rattle.plan_types.specs.declared.track.Track.{Track}
use Rattle.conn_tables.proofs.CounterLemmas.{free_counter}
use Rattle.std.specs.List.{enumerate_from}
use Rattle.conn_model.specs.Tables.{new_table, open_tracks, with_track, without_tracks}
use Rattle.conn_tables.specs.Tracks.{on_counter, plain_tracks, track_of}
use Rattle.conn_model.specs.declared.plain.Version.{Version}
use Rattle.conn_model.specs.Answer.{row_at, row_in, rest_in, offer_in}
use Rattle.conn_tables.specs.Tables.{StoredTables, plain_table}
use Rattle.conn_rows.specs.Value.{RowsValue, rows_of}
use Rattle.conn_model.specs.Answer.{awaits_server}
use Rattle.conn_rows.specs.Summaries.{is_waiting, stored_summary, summary_of, offered_stage, pending_at, pending_of, stored_pending}
use Rattle.conn_rows.specs.declared.row.ServerChoice.{ServerChoice}
use Rattle.conn_rows.specs.declared.row.Stage.{Stage}
use Rattle.conn_rows.specs.declared.row.Stage.TheVariants.{Waiting, Offered}
use Rattle.conn_rows.specs.declared.row.StoredRow.{StoredRow}
use Rattle.conn_rows.specs.Stored.{StoredFrontend, assignment_in, at_stage, awaits, has_serial, phase_of, phase_with, plan_at, plain_frontend, plain_row, rest_kept, rest_within, stored_arrival, stored_in, waits, with_stored}
use Rattle.conn_rows.proofs.Served.{version-offer}
use Rattle.conn_model.specs.Changes.{rest_at, row_fed, row_tracking, row_up, phase_fed, with_arrival, with_item, with_conn, with_row, without_conn, without_row}
use Rattle.conn_rows.specs.Changes.{phase_moved, row_moved, row_offered, stored_fed, stored_moved, stored_up, stage_fed, stage_moved, stage_offered, stage_up, CanMove, IsMovable}
use Rattle.proxy_types.specs.declared.server.ServerIdentity.{ServerIdentity}

pub get-map : {X Y : Type 0} (f : X → Y) (xs : List X) (n : ℕ) → slice_get (map f xs) n ≡ option_map f (slice_get xs n)
get-map f [] n = refl
get-map f (x ∷ xs) zero = refl
get-map f (x ∷ xs) (suc n) = get-map f xs n

-- one item changed in both
pub set-map : {X Y : Type 0} (f : X → Y) (change : Y → Y) (xs : List X) (n : ℕ) (x next : X) → slice_get xs n ≡ Some x → f next ≡ change (f x) → map f (set xs n next) ≡ with_item n change (map f xs)
set-map f change xs n x next there is =
    let here : slice_get (map f xs) n ≡ Some (f x) = get-map f xs n ∙ ap (option_map f) there in
    map-set f xs n next ∙ ap (λ y. set (map f xs) n y) is ∙ sym (ap (λ o. option_map_or (λ y. slice_set (map f xs) n (change y)) o (map f xs)) here)

pub none-map : {X Y : Type 0} (f : X → Y) (change : Y → Y) (xs : List X) (n : ℕ) → slice_get xs n ≡ None → map f xs ≡ with_item n change (map f xs)
none-map f change xs n none =
    let nowhere : slice_get (map f xs) n ≡ None = get-map f xs n ∙ ap (option_map f) none in
    sym (ap (λ o. option_map_or (λ y. slice_set (map f xs) n (change y)) o (map f xs)) nowhere)

-- ---- the rows of one frontend

pub find-plain : (versions : List Version) (serial : ℕ) (rows : List StoredRow) → find (λ row. row.serial == serial) (map (plain_row versions) rows) ≡ option_map (plain_row versions) (find (has_serial serial) rows)
find-plain versions serial [] = refl
find-plain versions serial (row ∷ rows) = by (row.serial == serial) refl (find-plain versions serial rows)
  where
    by : (b : Bool) → (row.serial == serial) ≡ b → find (λ row. row.serial == serial) (map (plain_row versions) rows) ≡ option_map (plain_row versions) (find (has_serial serial) rows) →
        find (λ row. row.serial == serial) (map (plain_row versions) (row ∷ rows)) ≡ option_map (plain_row versions) (find (has_serial serial) (row ∷ rows))
    by true is more = rw is refl
    by false is more = rw is more

with-plain : (versions : List Version) (serial : ℕ) (change : StoredRow → StoredRow) (plain : Row → Row) (rows : List StoredRow) → ((row : StoredRow) → plain_row versions (change row) ≡ plain (plain_row versions row)) →
    map (plain_row versions) (with_stored serial change rows) ≡ map (λ row. if row.serial == serial then plain row else row) (map (plain_row versions) rows)
with-plain versions serial change plain [] same = refl
with-plain versions serial change plain (row ∷ rows) same = by (row.serial == serial) refl (with-plain versions serial change plain rows same)
  where
    by : (b : Bool) → (row.serial == serial) ≡ b →
        map (plain_row versions) (with_stored serial change rows) ≡ map (λ row. if row.serial == serial then plain row else row) (map (plain_row versions) rows) →
        map (plain_row versions) (with_stored serial change (row ∷ rows)) ≡ map (λ row. if row.serial == serial then plain row else row) (map (plain_row versions) (row ∷ rows))
    by true is more = let here = same row in rw is (cc (here, more))
    by false is more = rw is (ap (λ rs. plain_row versions row ∷ rs) more)

others-plain : (versions : List Version) (serial : ℕ) (rows : List StoredRow) →
    map (plain_row versions) (filter (λ row. not (has_serial serial row)) rows) ≡ filter (λ row. not (row.serial == serial)) (map (plain_row versions) rows)
others-plain versions serial [] = refl
others-plain versions serial (row ∷ rows) = by (row.serial == serial) refl (others-plain versions serial rows)
  where
    by : (b : Bool) → (row.serial == serial) ≡ b →
        map (plain_row versions) (filter (λ row. not (has_serial serial row)) rows) ≡ filter (λ row. not (row.serial == serial)) (map (plain_row versions) rows) →
        map (plain_row versions) (filter (λ row. not (has_serial serial row)) (row ∷ rows)) ≡ filter (λ row. not (row.serial == serial)) (map (plain_row versions) (row ∷ rows))
    by true is more = rw is more
    by false is more = rw is (ap (λ rs. plain_row versions row ∷ rs) more)

-- ---- the changes

pub arrival_plain : (versions : List Version) (own : StoredFrontend) (version accepted : ℕ) (real : PairValue) →
    plain_frontend versions (record own { serial = own.serial + 1; rows = own.rows ++ stored_arrival (own.serial + 1) version real accepted ∷ [] }) ≡ with_arrival version real accepted (plain_frontend versions own)
arrival_plain versions own version accepted real =
    ap (λ rows. record { name = own.name; serial = own.serial + 1; rows = rows }) (map-append (plain_row versions) own.rows (stored_arrival (own.serial + 1) version real accepted ∷ []))

pub fed_plain : (versions : List Version) (own : StoredFrontend) (serial : ℕ) (piece : List ℕ) →
    plain_frontend versions (record own { rows = with_stored serial (stored_fed piece) own.rows }) ≡ with_row serial (row_fed piece) (plain_frontend versions own)
fed_plain versions own serial piece =
    ap (λ rows. record { name = own.name; serial = own.serial; rows = rows }) (with-plain versions serial (stored_fed piece) (row_fed piece) own.rows same)
  where
    same : (row : StoredRow) → plain_row versions (stored_fed piece row) ≡ row_fed piece (plain_row versions row)
    same row = ap (λ phase. record (plain_row versions row) { phase = phase }) (by row.stage)
      where
        by : (stage : Stage) → phase_of (plan_at versions row.version) (stage_fed piece stage) ≡ phase_fed piece (phase_of (plan_at versions row.version) stage)
        by (Waiting rest) = refl
        by (Offered held) = taken held.is_up
          where
            taken : (b : Bool) → phase_with b (assignment_in (plan_at versions row.version) held.seat held.failed.items) ≡ phase_fed piece (phase_with b (assignment_in (plan_at versions row.version) held.seat held.failed.items))
            taken true = refl
            taken false = refl

pub up_plain : (versions : List Version) (own : StoredFrontend) (serial : ℕ) →
    plain_frontend versions (record own { rows = with_stored serial stored_up own.rows }) ≡ with_row serial row_up (plain_frontend versions own)
up_plain versions own serial =
    ap (λ rows. record { name = own.name; serial = own.serial; rows = rows }) (with-plain versions serial stored_up row_up own.rows same)
  where
    same : (row : StoredRow) → plain_row versions (stored_up row) ≡ row_up (plain_row versions row)
    same row = ap (λ phase. record (plain_row versions row) { phase = phase }) (by row.stage)
      where
        by : (stage : Stage) → phase_of (plan_at versions row.version) (stage_up stage) ≡ phase_up (phase_of (plan_at versions row.version) stage)
        by (Waiting rest) = refl
        by (Offered held) = taken held.is_up
          where
            taken : (b : Bool) → phase_with true (assignment_in (plan_at versions row.version) held.seat held.failed.items) ≡ phase_up (phase_with b (assignment_in (plan_at versions row.version) held.seat held.failed.items))
            taken true = refl
            taken false = refl

pub offered_plain : (versions : List Version) (own : StoredFrontend) (serial : ℕ) (seat : ServerChoice) (slot : SlotIx) →
    plain_frontend versions (record own { rows = with_stored serial (at_stage (stage_offered seat slot)) own.rows }) ≡ with_row serial (row_offered versions seat) (plain_frontend versions own)
offered_plain versions own serial seat slot =
    ap (λ rows. record { name = own.name; serial = own.serial; rows = rows }) (with-plain versions serial (at_stage (stage_offered seat slot)) (row_offered versions seat) own.rows (λ row. refl))

-- another server
pub stage_moved_plain : (plan : Option Plan) (seat : ServerChoice) (slot : SlotIx) (stage : Stage) → phase_of plan (stage_moved seat slot stage) ≡ phase_moved plan seat (phase_of plan stage)
stage_moved_plain plan seat slot (Waiting rest) = refl
stage_moved_plain plan seat slot (Offered held) = by held.is_up
  where
    before : Assignment
    before = assignment_in plan held.seat held.failed.items

    by : (up : Bool) → phases.Offered (assignment_in plan seat (before.failed ++ before.line ∷ [])) ≡ phase_moved plan seat (phase_with up before)
    by false = refl
    by true = refl

pub moved_plain : (versions : List Version) (own : StoredFrontend) (serial : ℕ) (seat : ServerChoice) (slot : SlotIx) →
    plain_frontend versions (record own { rows = with_stored serial (stored_moved seat slot) own.rows }) ≡ with_row serial (row_moved versions seat) (plain_frontend versions own)
moved_plain versions own serial seat slot =
    ap (λ rows. record { name = own.name; serial = own.serial; rows = rows })
    (with-plain versions serial (stored_moved seat slot) (row_moved versions seat) own.rows
    (λ row. ap (λ phase. record (plain_row versions row) { phase = phase }) (stage_moved_plain (plan_at versions row.version) seat slot row.stage)))

pub others_plain : (versions : List Version) (own : StoredFrontend) (serial : ℕ) →
    plain_frontend versions (record own { rows = filter (λ row. not (has_serial serial row)) own.rows }) ≡ without_row serial (plain_frontend versions own)
others_plain versions own serial = ap (λ rows. record { name = own.name; serial = own.serial; rows = rows }) (others-plain versions serial own.rows)

-- ---- what is looked up

pub row_is : (versions : List Version) (frontends : List StoredFrontend) (id : ConnId) → row_at (map (plain_frontend versions) frontends) id ≡ option_map (plain_row versions) (stored_in id.serial (slice_get frontends id.frontend))
row_is versions frontends id = ap (row_in id.serial) (get-map (plain_frontend versions) frontends id.frontend) ∙ by (slice_get frontends id.frontend)
  where
    by : (o : Option StoredFrontend) → row_in id.serial (option_map (plain_frontend versions) o) ≡ option_map (plain_row versions) (stored_in id.serial o)
    by None = refl
    by (Some own) = find-plain versions id.serial own.rows

pub rest_is : (versions : List Version) (frontends : List StoredFrontend) (id : ConnId) (own : StoredFrontend) → slice_get frontends id.frontend ≡ Some own → rest_at (map (plain_frontend versions) frontends) id ≡ rest_kept id.serial own.rows
rest_is versions frontends id own there =
    ap (option_and_then (λ row. rest_in row.phase)) (row_is versions frontends id ∙ ap (λ o. option_map (plain_row versions) (stored_in id.serial o)) there) ∙ by (find (has_serial id.serial) own.rows)
  where
    stage : (row : StoredRow) (s : Stage) → rest_in (phase_of (plan_at versions row.version) s) ≡ rest_within s
    stage row (Waiting rest) = refl
    stage row (Offered held) = taken held.is_up
      where
        taken : (b : Bool) → rest_in (phase_with b (assignment_in (plan_at versions row.version) held.seat held.failed.items)) ≡ None
        taken true = refl
        taken false = refl

    by : (o : Option StoredRow) → option_and_then (λ row. rest_in row.phase) (option_map (plain_row versions) o) ≡ option_and_then (λ row. rest_within row.stage) o
    by None = refl
    by (Some row) = stage row row.stage

-- what it was offered whose server did not take it yet
pub pending_plain : (versions : List Version) (row : StoredRow) → stored_pending row ≡ pending_of (plain_row versions row)
pending_plain versions row = by row.stage
  where
    by : (s : Stage) → offered_stage row.version s ≡ option_map (λ given. (row.version, given.line, given.judged, given.failed)) (offer_in (phase_of (plan_at versions row.version) s))
    by (Waiting rest) = refl
    by (Offered held) = taken held.is_up
      where
        taken : (b : Bool) → pending_at b row.version held.seat held.failed.items
            ≡ option_map (λ given. (row.version, given.line, given.judged, given.failed)) (offer_in (phase_with b (assignment_in (plan_at versions row.version) held.seat held.failed.items)))
        taken true = refl
        taken false = refl

-- ---- the whole state

abbrev pub value_of : List StoredFrontend → List Version → StoredTables → List ServerIdentity → RowsValue
value_of frontends versions tables down = record { frontends = map (plain_frontend versions) frontends; versions = versions; tables = map (plain_table tables.clock) tables.tables; clock = tables.clock; spare = tables.spare; down = down }

some_below : {X Y : Type 0} (f : X → Y) (o : Option X) → IsSome (option_map f o) → IsSome o
some_below f None some = absurd (cc)
some_below f (Some x) some = refl

-- the frontend that is read at a number, where there is one
pub own_there : {down : List ServerIdentity} (frontends : List StoredFrontend) (versions : List Version) (tables : StoredTables) (state : RowsValue) (n number : ℕ) (own : StoredFrontend) →
    value_of frontends versions tables down ≡ state → n ≡ number → own ≡ get_or frontends n own → IsSome (slice_get state.frontends number) → slice_get frontends number ≡ Some own
own_there {down} frontends versions tables state n number own state_is n_is value some = by (slice_get frontends number) refl below
  where
    stored : slice_get state.frontends number ≡ option_map (plain_frontend versions) (slice_get frontends number)
    stored = ap (λ s. slice_get s.frontends number) (sym state_is) ∙ get-map (plain_frontend versions) frontends number

    below : IsSome (slice_get frontends number)
    below = some_below (plain_frontend versions) (slice_get frontends number) (subst IsSome stored some)

    by : (o : Option StoredFrontend) → slice_get frontends number ≡ o → IsSome o → o ≡ Some own
    by None is some = absurd (cc)
    by (Some x) is some = ap (λ x. Some x) (sym (value ∙ ap (λ n. get_or frontends n own) n_is ∙ get_or_from_slice_get frontends number x own is))

-- one frontend changed
pub changed : {down : List ServerIdentity} (frontends : List StoredFrontend) (versions : List Version) (tables : StoredTables) (state : RowsValue) (n number : ℕ) (own next : StoredFrontend) (change : List Version → FrontendRows → FrontendRows) →
    value_of frontends versions tables down ≡ state → n ≡ number → slice_get frontends number ≡ Some own → plain_frontend versions next ≡ change versions (plain_frontend versions own) →
    value_of (set frontends n next) versions tables down ≡ record state { frontends = with_item number (change state.versions) state.frontends }
changed {down} frontends versions tables state n number own next change state_is n_is there is =
    let P : RowsValue → Type 0 = λ s. value_of (set frontends n next) versions tables down ≡ record s { frontends = with_item number (change s.versions) s.frontends } in
    subst P state_is
    (ap (λ fs. record { frontends = fs; versions = versions; tables = map (plain_table tables.clock) tables.tables; clock = tables.clock; spare = tables.spare; down = down })
    (ap (λ n. map (plain_frontend versions) (set frontends n next)) n_is ∙ set-map (plain_frontend versions) (change versions) frontends number own next there is))

pub rest_of_state : {down : List ServerIdentity} (frontends : List StoredFrontend) (versions : List Version) (tables : StoredTables) (state : RowsValue) (id : ConnId) (own : StoredFrontend) →
    value_of frontends versions tables down ≡ state → slice_get frontends id.frontend ≡ Some own → rest_at state.frontends id ≡ rest_kept id.serial own.rows
rest_of_state {down} frontends versions tables state id own state_is there = ap (λ s. rest_at s.frontends id) (sym state_is) ∙ rest_is versions frontends id own there

pub row_of_state : {down : List ServerIdentity} (frontends : List StoredFrontend) (versions : List Version) (tables : StoredTables) (state : RowsValue) (id : ConnId) →
    value_of frontends versions tables down ≡ state → row_at state.frontends id ≡ option_map (plain_row versions) (stored_in id.serial (slice_get frontends id.frontend))
row_of_state {down} frontends versions tables state id state_is = ap (λ s. row_at s.frontends id) (sym state_is) ∙ row_is versions frontends id

pub stored_open : {down : List ServerIdentity} (frontends : List StoredFrontend) (versions : List Version) (tables : StoredTables) (state : RowsValue) (id : ConnId) (own : StoredFrontend) →
    value_of frontends versions tables down ≡ state → slice_get frontends id.frontend ≡ Some own → IsSome (row_at state.frontends id) → IsSome (find (has_serial id.serial) own.rows)
stored_open {down} frontends versions tables state id own state_is there some =
    some_below (plain_row versions) (find (has_serial id.serial) own.rows)
    (subst IsSome (row_of_state frontends versions tables state id state_is ∙ ap (λ o. option_map (plain_row versions) (stored_in id.serial o)) there) some)

-- where a connection is open there is its frontend
pub row_there : (frontends : List FrontendRows) (id : ConnId) → IsSome (row_at frontends id) → IsSome (slice_get frontends id.frontend)
row_there frontends id some = by (slice_get frontends id.frontend) some
  where
    by : (o : Option FrontendRows) → IsSome (row_in id.serial o) → IsSome o
    by None some = absurd (cc)
    by (Some own) some = refl

pub rest_there : (frontends : List FrontendRows) (id : ConnId) → IsSome (rest_at frontends id) → IsSome (slice_get frontends id.frontend)
rest_there frontends id some = row_there frontends id (by (row_at frontends id) some)
  where
    by : (o : Option Row) → IsSome (option_and_then (λ row. rest_in row.phase) o) → IsSome o
    by None some = absurd (cc)
    by (Some row) some = refl

pub rest_open : (frontends : List FrontendRows) (id : ConnId) → IsSome (rest_at frontends id) → IsSome (row_at frontends id)
rest_open frontends id some = by (row_at frontends id) some
  where
    by : (o : Option Row) → IsSome (option_and_then (λ row. rest_in row.phase) o) → IsSome o
    by None some = absurd (cc)
    by (Some row) some = refl

-- the version that judges a connection
pub judged_there : {down : List ServerIdentity} (frontends : List StoredFrontend) (versions : List Version) (tables : StoredTables) (state : RowsValue) (id : ConnId) (own : StoredFrontend) (row : StoredRow) (version : ℕ) →
    value_of frontends versions tables down ≡ state → slice_get frontends id.frontend ≡ Some own → find (has_serial id.serial) own.rows ≡ Some row → IfSome (row_at state.frontends id) (λ row. row.version ≡ version) → row.version ≡ version
judged_there {down} frontends versions tables state id own row version state_is there found judged =
    subst (λ o. IfSome o (λ (row : Row). row.version ≡ version))
    (row_of_state frontends versions tables state id state_is ∙ ap (λ o. option_map (plain_row versions) (stored_in id.serial o)) there ∙ ap (option_map (plain_row versions)) found) judged

-- frontends of which nothing is open
pub empty_plain : (versions : List Version) (frontends : List Frontend) (last : ℕ) →
    map (plain_frontend versions) (map (λ frontend. record { name = frontend.name; serial = last; rows = [] }) frontends) ≡ map (λ frontend. record { name = frontend.name; serial = last; rows = [] }) frontends
empty_plain versions [] last = refl
empty_plain versions (f ∷ frontends) last = ap (λ fs. record { name = f.name; serial = last; rows = [] } ∷ fs) (empty_plain versions frontends last)

-- what is said of a row
pub summed : (versions : List Version) (row : StoredRow) → stored_summary row ≡ summary_of (plain_row versions row)
summed versions row =
    ap (λ b. record { version = row.version; real = row.real; accepted = row.accepted; waits = b; awaits_server = awaits row.stage }) (by row.stage)
    ∙ ap (λ b. record { version = row.version; real = row.real; accepted = row.accepted; waits = is_waiting (phase_of (plan_at versions row.version) row.stage); awaits_server = b }) (offered row.stage)
  where
    by : (stage : Stage) → waits stage ≡ is_waiting (phase_of (plan_at versions row.version) stage)
    by (Waiting rest) = refl
    by (Offered held) = taken held.is_up
      where
        taken : (b : Bool) → false ≡ is_waiting (phase_with b (assignment_in (plan_at versions row.version) held.seat held.failed.items))
        taken true = refl
        taken false = refl

    offered : (stage : Stage) → awaits stage ≡ awaits_server (phase_of (plan_at versions row.version) stage)
    offered (Waiting rest) = refl
    offered (Offered held) = taken held.is_up
      where
        taken : (b : Bool) → not b ≡ awaits_server (phase_with b (assignment_in (plan_at versions row.version) held.seat held.failed.items))
        taken true = refl
        taken false = refl

pub own_below : (frontends : List StoredFrontend) (n number : ℕ) (own : StoredFrontend) → n ≡ number → own ≡ get_or frontends n own → n < length frontends → slice_get frontends number ≡ Some own
own_below frontends n number own n_is value less =
    ap (λ i. slice_get frontends i) (sym n_is) ∙ slice_get_read frontends (length frontends) n own refl less value

-- what there is when a plan is opened
pub opened : (plan : Plan) (last : ℕ) (frontends : List StoredFrontend) (versions : List Version) (tables : StoredTables) →
    frontends ≡ map (λ frontend. record { name = frontend.name; serial = last; rows = [] }) plan.frontends → versions ≡ new_version 1 plan ∷ [] →
    map (plain_table tables.clock) tables.tables ≡ map (new_table 1) (enumerate_from 0 plan.tables) → tables.spare ≡ 0 → tables.clock ≡ 0 →
    value_of frontends versions tables [] ≡ rows_of (opening plan last)
opened plan last frontends versions tables frontends_are versions_are tables_are spare_is clock_is =
    rw (versions_are, tables_are, frontends_are, spare_is, clock_is)
    (ap (λ fs. record { frontends = fs; versions = new_version 1 plan ∷ []; tables = map (new_table 1) (enumerate_from 0 plan.tables); clock = 0; spare = 0; down = [] }) (empty_plain (new_version 1 plan ∷ []) plan.frontends last))

-- a connection ended, with what it tracked
pub removed : {down : List ServerIdentity} (frontends next : List StoredFrontend) (versions : List Version) (tables rest : StoredTables) (value : RowsValue) (id : ConnId) (o : Option StoredRow) →
    value_of frontends versions tables down ≡ value → o ≡ stored_in id.serial (slice_get frontends id.frontend) →
    map (plain_frontend versions) next ≡ without_conn id (map (plain_frontend versions) frontends) →
    map (plain_table rest.clock) rest.tables ≡ without_tracks tables.clock (option_map_or (λ row. plain_tracks row.tracks) o []) (map (plain_table tables.clock) tables.tables) → rest.spare ≡ tables.spare → rest.clock ≡ tables.clock →
    value_of next versions rest down ≡ record value { frontends = without_conn id value.frontends; tables = without_tracks value.clock (tracks_at value.frontends id) value.tables }
removed {down} frontends next versions tables rest value id o value_is o_is left ended spare clock =
    let P : RowsValue → Type 0 = λ v. value_of next versions rest down ≡ record v { frontends = without_conn id v.frontends; tables = without_tracks v.clock (tracks_at v.frontends id) v.tables } in
    let tracks : tracks_at (map (plain_frontend versions) frontends) id ≡ option_map_or (λ row. plain_tracks row.tracks) o [] =
    ap (λ o. option_map_or (λ row. row.tracks) o []) (row_is versions frontends id ∙ ap (option_map (plain_row versions)) (sym o_is)) ∙ by o in
    subst P value_is
    (rw (left, ended, spare, clock, tracks) refl)
  where
    by : (o : Option StoredRow) → option_map_or (λ row. row.tracks) (option_map (plain_row versions) o) [] ≡ option_map_or (λ row. plain_tracks row.tracks) o []
    by None = refl
    by (Some row) = refl

-- the serial that is given out next
pub next_serial : {down : List ServerIdentity} (frontends : List StoredFrontend) (versions : List Version) (tables : StoredTables) (value : RowsValue) (number : ℕ) (own : StoredFrontend) (serial : ℕ) →
    value_of frontends versions tables down ≡ value → slice_get frontends number ≡ Some own → serial ≡ own.serial + 1 → Some serial ≡ option_map (λ own. own.serial + 1) (slice_get value.frontends number)
next_serial {down} frontends versions tables value number own serial value_is there is =
    let plain : slice_get value.frontends number ≡ Some (plain_frontend versions own) =
    ap (λ v. slice_get v.frontends number) (sym value_is) ∙ get-map (plain_frontend versions) frontends number ∙ ap (option_map (plain_frontend versions)) there in
    rw (plain, is) refl

above-plain : (versions : List Version) (serial : ℕ) (plain : Row → Row) (rows : List StoredRow) → AllByRecursion (λ row. serial < row.serial) rows → change_row serial plain (map (plain_row versions) rows) ≡ map (plain_row versions) rows
above-plain versions serial plain [] above = refl
above-plain versions serial plain (row ∷ rows) above =
    let less : serial < row.serial = above.0 in
    let differs : (row.serial == serial) ≡ false = grind (arith, nat_tests, less) in
    rw differs (ap (λ rs. plain_row versions row ∷ rs) (above-plain versions serial plain rows above.1))

-- the row of a serial changed in both
pub set-plain : (versions : List Version) (serial : ℕ) (plain : Row → Row) (rows : List StoredRow) (n : ℕ) (row next : StoredRow) → Rise (λ row. row.serial) rows → slice_get rows n ≡ Some row → row.serial ≡ serial →
    plain_row versions next ≡ plain (plain_row versions row) → map (plain_row versions) (set rows n next) ≡ change_row serial plain (map (plain_row versions) rows)
set-plain versions serial plain [] n row next rise there is now = absurd (cc)
set-plain versions serial plain (r ∷ rows) zero row next rise there is now =
    let same : r ≡ row = cc in
    let it : r.serial ≡ serial = ap (λ r. r.serial) same ∙ is in
    let its : (r.serial == serial) ≡ true = grind (arith, nat_tests, it) in
    let left : change_row serial plain (map (plain_row versions) rows) ≡ map (plain_row versions) rows =
    above-plain versions serial plain rows (all-more (λ x. r.serial < x.serial) (λ x. serial < x.serial) rows (λ x lt. omega (arith, lt, it)) rise.0) in
    let here : plain_row versions next ≡ plain (plain_row versions r) = now ∙ ap (λ r. plain (plain_row versions r)) (sym same) in
    rw its (cc (left, here))
set-plain versions serial plain (r ∷ rows) (suc n) row next rise there is now =
    let less : r.serial < row.serial = all-at (λ x. r.serial < x.serial) rows n row rise.0 there in
    let differs : (r.serial == serial) ≡ false = grind (arith, nat_tests, less, is) in
    rw differs (ap (λ rs. plain_row versions r ∷ rs) (set-plain versions serial plain rows n row next rise.1 there is now))

pub own_exists : {down : List ServerIdentity} (frontends : List StoredFrontend) (versions : List Version) (tables : StoredTables) (value : RowsValue) (id : ConnId) → value_of frontends versions tables down ≡ value → IsSome (row_at value.frontends id) →
    id.frontend < length frontends
own_exists {down} frontends versions tables value id value_is some = by (slice_get frontends id.frontend) refl below
  where
    below : IsSome (slice_get frontends id.frontend)
    below =
        some_below (plain_frontend versions) (slice_get frontends id.frontend)
        (subst IsSome (ap (λ v. slice_get v.frontends id.frontend) (sym value_is) ∙ get-map (plain_frontend versions) frontends id.frontend) (row_there value.frontends id some))

    by : (o : Option StoredFrontend) → slice_get frontends id.frontend ≡ o → IsSome o → id.frontend < length frontends
    by None is some = absurd (cc)
    by (Some own) is some = slice_get_within frontends id.frontend own is

-- the row of which a counter tracks nothing
pub free_there : {down : List ServerIdentity} (frontends : List StoredFrontend) (versions : List Version) (tables : StoredTables) (value : RowsValue) (id : ConnId) (own : StoredFrontend) (counter : ℕ) → value_of frontends versions tables down ≡ value →
    slice_get frontends id.frontend ≡ Some own → counter < 3 → IsSome (row_at value.frontends id) → IfSome (row_at value.frontends id) (λ row. track_of counter row.tracks ≡ None) →
    (row : StoredRow) × (find (has_serial id.serial) own.rows ≡ Some row) × (on_counter counter row.tracks ≡ None)
free_there {down} frontends versions tables value id own counter value_is there less some free =
    by (find (has_serial id.serial) own.rows) refl (subst IsSome row_is_plain some) (subst (λ o. IfSome o (λ row. track_of counter row.tracks ≡ None)) row_is_plain free)
  where
    row_is_plain : row_at value.frontends id ≡ option_map (plain_row versions) (find (has_serial id.serial) own.rows)
    row_is_plain = row_of_state frontends versions tables value id value_is ∙ ap (λ o. option_map (plain_row versions) (stored_in id.serial o)) there

    by : (o : Option StoredRow) → find (has_serial id.serial) own.rows ≡ o → IsSome (option_map (plain_row versions) o) → IfSome (option_map (plain_row versions) o) (λ row. track_of counter row.tracks ≡ None) →
        (row : StoredRow) × (find (has_serial id.serial) own.rows ≡ Some row) × (on_counter counter row.tracks ≡ None)
    by None is some free = absurd (cc)
    by (Some row) is some free = (row, is, free_counter counter row.tracks less free)

-- a connection tracks one key more
pub tracking_value : {down : List ServerIdentity} (frontends : List StoredFrontend) (versions : List Version) (tables rest : StoredTables) (value : RowsValue) (n : ℕ) (id : ConnId) (own next : StoredFrontend) (track : Track) →
    value_of frontends versions tables down ≡ value → n ≡ id.frontend → slice_get frontends id.frontend ≡ Some own → plain_frontend versions next ≡ with_row id.serial (row_tracking track) (plain_frontend versions own) →
    map (plain_table rest.clock) rest.tables ≡ with_track tables.clock (open_tracks (map (plain_frontend versions) frontends)) track (map (plain_table tables.clock) tables.tables) → rest.spare + 1 ≡ tables.spare → rest.clock ≡ tables.clock →
    value_of (set frontends n next) versions rest down ≡ record value { frontends = with_conn id (row_tracking track) value.frontends; tables = with_track value.clock (open_tracks value.frontends) track value.tables; spare = value.spare - 1 }
tracking_value {down} frontends versions tables rest value n id own next track value_is n_is there next_is tables_are spare clock =
    let P : RowsValue → Type 0 = λ v. value_of (set frontends n next) versions rest down ≡ record v { frontends = with_conn id (row_tracking track) v.frontends; tables = with_track v.clock (open_tracks v.frontends) track v.tables; spare = v.spare - 1 } in
    let all : map (plain_frontend versions) (set frontends n next) ≡ with_conn id (row_tracking track) (map (plain_frontend versions) frontends) =
    ap (λ n. map (plain_frontend versions) (set frontends n next)) n_is ∙ set-map (plain_frontend versions) (with_row id.serial (row_tracking track)) frontends id.frontend own next there next_is in
    let less : rest.spare ≡ tables.spare - 1 = omega (arith, spare) in
    subst P value_is (rw (all, tables_are, less, clock) refl)

-- versions of the same plans say the same of the rows
rows_alike : (versions others : List Version) → ((n : ℕ) → plan_at others n ≡ plan_at versions n) → (rows : List StoredRow) → map (plain_row others) rows ≡ map (plain_row versions) rows
rows_alike versions others same [] = refl
rows_alike versions others same (row ∷ rows) =
    let here : plain_row others row ≡ plain_row versions row = ap (λ plan. record (plain_row versions row) { phase = phase_of plan row.stage }) (same row.version) in
    let more = rows_alike versions others same rows in
    cc (here, more)

frontends_alike : (versions others : List Version) → ((n : ℕ) → plan_at others n ≡ plan_at versions n) → (frontends : List StoredFrontend) → map (plain_frontend others) frontends ≡ map (plain_frontend versions) frontends
frontends_alike versions others same [] = refl
frontends_alike versions others same (own ∷ frontends) =
    let here : plain_frontend others own ≡ plain_frontend versions own = ap (λ rows. record { name = own.name; serial = own.serial; rows = rows }) (rows_alike versions others same own.rows) in
    let more = frontends_alike versions others same frontends in
    cc (here, more)

-- a row is changed, and what was last used of the backend of its server moves
seated_value : {down : List ServerIdentity} (frontends : List StoredFrontend) (versions others : List Version) (tables : StoredTables) (value : RowsValue) (n : ℕ) (id : ConnId) (own : StoredFrontend) (version : ℕ) (seat : ServerChoice)
    (change : StoredRow → StoredRow) (plain : List Version → Row → Row) →
    value_of frontends versions tables down ≡ value → n ≡ id.frontend → slice_get frontends id.frontend ≡ Some own → others ≡ map (with_offer version seat.line seat.server) versions →
    plain_frontend versions (record own { rows = with_stored id.serial change own.rows }) ≡ with_row id.serial (plain versions) (plain_frontend versions own) →
    value_of (set frontends n (record own { rows = with_stored id.serial change own.rows })) others tables down ≡
    record value { frontends = with_conn id (plain value.versions) value.frontends; versions = map (with_offer version seat.line seat.server) value.versions }
seated_value {down} frontends versions others tables value n id own version seat change plain value_is n_is there others_are plain_is =
    let next : StoredFrontend = record own { rows = with_stored id.serial change own.rows } in
    let moved : value_of (set frontends n next) versions tables down ≡ record value { frontends = with_conn id (plain value.versions) value.frontends } =
    changed frontends versions tables value n id.frontend own next (λ versions. with_row id.serial (plain versions)) value_is n_is there plain_is in
    let alike : map (plain_frontend others) (set frontends n next) ≡ map (plain_frontend versions) (set frontends n next) =
    frontends_alike versions others (λ m. ap (λ vs. plan_at vs m) others_are ∙ version-offer version seat.line seat.server versions m) (set frontends n next) in
    let named : others ≡ map (with_offer version seat.line seat.server) value.versions = others_are ∙ ap (λ v. map (with_offer version seat.line seat.server) v.versions) value_is in
    let first : value_of (set frontends n next) others tables down ≡ record (value_of (set frontends n next) versions tables down) { versions = others } =
    ap {B = RowsValue} (λ fs. record { frontends = fs; versions = others; tables = map (plain_table tables.clock) tables.tables; clock = tables.clock; spare = tables.spare; down = down }) alike in
    let second : record (value_of (set frontends n next) versions tables down) { versions = others } ≡ record (value_of (set frontends n next) versions tables down) { versions = map (with_offer version seat.line seat.server) value.versions } =
    ap (λ vs. record (value_of (set frontends n next) versions tables down) { versions = vs }) named in
    let third : record (value_of (set frontends n next) versions tables down) { versions = map (with_offer version seat.line seat.server) value.versions } ≡ record value { frontends = with_item id.frontend (with_row id.serial (plain value.versions)) value.frontends; versions = map (with_offer version seat.line seat.server) value.versions } =
    ap (λ (v : RowsValue). record v { versions = map (with_offer version seat.line seat.server) value.versions }) moved in
    first ∙ second ∙ third

-- a connection is offered a server
pub offered_value : {down : List ServerIdentity} (frontends : List StoredFrontend) (versions others : List Version) (tables : StoredTables) (value : RowsValue) (n : ℕ) (id : ConnId) (own : StoredFrontend) (version : ℕ) (seat : ServerChoice) (slot : SlotIx) →
    value_of frontends versions tables down ≡ value → n ≡ id.frontend → slice_get frontends id.frontend ≡ Some own → others ≡ map (with_offer version seat.line seat.server) versions →
    value_of (set frontends n (record own { rows = with_stored id.serial (at_stage (stage_offered seat slot)) own.rows })) others tables down ≡
    record value { frontends = with_conn id (row_offered value.versions seat) value.frontends; versions = map (with_offer version seat.line seat.server) value.versions }
offered_value frontends versions others tables value n id own version seat slot value_is n_is there others_are =
    seated_value frontends versions others tables value n id own version seat (at_stage (stage_offered seat slot)) (λ versions. row_offered versions seat) value_is n_is there others_are
    (offered_plain versions own id.serial seat slot)

-- it is moved to another one
pub moved_value : {down : List ServerIdentity} (frontends : List StoredFrontend) (versions others : List Version) (tables : StoredTables) (value : RowsValue) (n : ℕ) (id : ConnId) (own : StoredFrontend) (version : ℕ) (seat : ServerChoice) (slot : SlotIx) →
    value_of frontends versions tables down ≡ value → n ≡ id.frontend → slice_get frontends id.frontend ≡ Some own → others ≡ map (with_offer version seat.line seat.server) versions →
    value_of (set frontends n (record own { rows = with_stored id.serial (stored_moved seat slot) own.rows })) others tables down ≡
    record value { frontends = with_conn id (row_moved value.versions seat) value.frontends; versions = map (with_offer version seat.line seat.server) value.versions }
moved_value frontends versions others tables value n id own version seat slot value_is n_is there others_are =
    seated_value frontends versions others tables value n id own version seat (stored_moved seat slot) (λ versions. row_moved versions seat) value_is n_is there others_are
    (moved_plain versions own id.serial seat slot)

-- a connection that can be moved is a row that can be
pub moving_there : {down : List ServerIdentity} (frontends : List StoredFrontend) (versions : List Version) (tables : StoredTables) (state : RowsValue) (id : ConnId) (own : StoredFrontend) →
    value_of frontends versions tables down ≡ state → slice_get frontends id.frontend ≡ Some own → (row : Row) × (row_at state.frontends id ≡ Some row) × IsMovable row.phase →
    (row : StoredRow) × (find (has_serial id.serial) own.rows ≡ Some row) × CanMove row.stage
moving_there {down} frontends versions tables state id own state_is there (row, is, movable) = by (find (has_serial id.serial) own.rows) refl stored
  where
    stored : option_map (plain_row versions) (find (has_serial id.serial) own.rows) ≡ Some row
    stored = sym (row_of_state frontends versions tables state id state_is ∙ ap (λ o. option_map (plain_row versions) (stored_in id.serial o)) there) ∙ is

    stage : (plan : Option Plan) (stage : Stage) → IsMovable (phase_of plan stage) → CanMove stage
    stage plan (Waiting rest) can = absurd can
    stage plan (Offered held) can = up held.is_up can
      where
        up : (up : Bool) → IsMovable (phase_with up (assignment_in plan held.seat held.failed.items)) → length held.failed.items < MOST_MOVES
        up false can = can
        up true can = absurd can

    by : (o : Option StoredRow) → find (has_serial id.serial) own.rows ≡ o → option_map (plain_row versions) o ≡ Some row → (row : StoredRow) × (find (has_serial id.serial) own.rows ≡ Some row) × CanMove row.stage
    by None found is = absurd (cc)
    by (Some kept) found is =
        let same : plain_row versions kept ≡ row = cc in
        (kept, found, stage (plan_at versions kept.version) kept.stage (subst (λ (row : Row). IsMovable row.phase) (sym same) movable))
