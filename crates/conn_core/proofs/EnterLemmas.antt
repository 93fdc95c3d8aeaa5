-- A connection that comes in.
use Rattle.std.proofs.Common.{◌≡◌, ℕ, zero, suc, ◌+◌, ◌≤◌, true, false, not, List, [], ◌∷◌, ◌++◌, Some, refl, ◌∙◌, sym, ap, subst, arith, append-nil}
use Rattle.std.specs.Prelude.{filter, find, flat_map, map, option_and_then, slice_get, slice_set, IfSome, IsSome, ◌==◌}
use Rattle.std.specs.List.{AllByRecursion}
use Rattle.std.specs.Option.{option_map_or}
use Rattle.std.proofs.lemmas.Bool.Decides.{nat_tests}
use Rattle.plan_types.specs.declared.track.Track.{Track}
use Rattle.addr_core.specs.declared.addr.Addr.{Addr}
use Rattle.rule_engine.specs.Judging.{TrackSlots}
use Rattle.rule_engine.specs.Meaning.{present}
use Rattle.conn_model.specs.declared.event.ConnId.{ConnId}
use Rattle.conn_model.specs.declared.reply.Cause.{Cause}
use Rattle.conn_model.specs.declared.plain.Row.{Row}
use Rattle.conn_model.specs.declared.plain.FrontendRows.{FrontendRows}
use Rattle.conn_model.specs.declared.plain.TableState.{TableState}
use Rattle.conn_model.specs.declared.plain.Version.{Version}
use Rattle.conn_model.specs.Counts.{change_row}
use Rattle.conn_model.specs.Answer.{rest_in}
use Rattle.conn_model.specs.History.{tables_by, with_offer}
use Rattle.conn_model.specs.Tables.{by_counter, open_tracks, tables_alive, tracks_at, tracks_in, with_tracks, without_tracks}
use Rattle.conn_model.specs.Words.{row_at, row_in}
use Rattle.conn_model.proofs.Trackings.{none_tracked}
use Rattle.conn_model.specs.Changes.{rest_at, with_arrival, with_conn, with_item, with_refusal, with_row, without_conn, without_row}
use Rattle.conn_rows.specs.Changes.{row_offered}
use Rattle.conn_rows.specs.declared.rows.RowsState.{RowsState}
use Rattle.conn_rows.specs.Value.{state_of, RowsValue}
use Rattle.list_core.proofs.PlaceLemmas.{get-set}
use Rattle.conn_model.proofs.Changes.{item_twice}
use Rattle.conn_core.specs.declared.entering.SessionStart.{SessionStart}
use Rattle.conn_core.specs.declared.outcome.TrackedOutcome.{TrackedOutcome}
use Rattle.conn_core.specs.declared.outcome.Offer.{Offer}
use Rattle.conn_core.specs.declared.outcome.Outcome.{Outcome}
use Rattle.conn_core.specs.declared.outcome.Outcome.TheVariants as outcomes
use Rattle.conn_core.specs.Changes.{entered, entered_row, newcomer, settled_versions, with_newcomer, IsComing}
use Rattle.conn_core.specs.Outcome.{reply_by}
use Rattle.conn_core.specs.Tracking.{row_with, ArePossible, AreSorted}

-- Rows of lower serials, and one of the next.

change-new : (last : ℕ) (change : Row → Row) (rows : List Row) (row : Row) → AllByRecursion (λ r. r.serial ≤ last) rows → row.serial ≡ last + 1 →
    change_row (last + 1) change (rows ++ row ∷ []) ≡ rows ++ change row ∷ []
change-new last change [] row given next = let is : (row.serial == last + 1) ≡ true = grind (arith, nat_tests, next) in rw is refl
change-new last change (r ∷ rows) row given next =
    let low = given.0 in
    let differs : (r.serial == last + 1) ≡ false = grind (arith, nat_tests, low) in
    rw differs (ap (λ rs. r ∷ rs) (change-new last change rows row given.1 next))

pub find-new : (last : ℕ) (rows : List Row) (row : Row) → AllByRecursion (λ r. r.serial ≤ last) rows → row.serial ≡ last + 1 → find (λ r. r.serial == last + 1) (rows ++ row ∷ []) ≡ Some row
find-new last [] row given next = let is : (row.serial == last + 1) ≡ true = grind (arith, nat_tests, next) in rw is refl
find-new last (r ∷ rows) row given next =
    let low = given.0 in
    let differs : (r.serial == last + 1) ≡ false = grind (arith, nat_tests, low) in
    rw differs (find-new last rows row given.1 next)

gone-new : (last : ℕ) (rows : List Row) (row : Row) → AllByRecursion (λ r. r.serial ≤ last) rows → row.serial ≡ last + 1 → filter (λ r. not (r.serial == last + 1)) (rows ++ row ∷ []) ≡ rows
gone-new last [] row given next = let is : (row.serial == last + 1) ≡ true = grind (arith, nat_tests, next) in rw is refl
gone-new last (r ∷ rows) row given next =
    let low = given.0 in
    let differs : (r.serial == last + 1) ≡ false = grind (arith, nat_tests, low) in
    rw differs (ap (λ rs. r ∷ rs) (gone-new last rows row given.1 next))

sorted-new : (last serial : ℕ) (rows : List Row) (row : Row) → AllByRecursion (λ r. r.serial ≤ last) rows → serial ≡ last + 1 → by_counter row.tracks ≡ row.tracks →
    AllByRecursion (λ r. r.serial ≡ serial → by_counter r.tracks ≡ r.tracks) (rows ++ row ∷ [])
sorted-new last serial [] row given next sorted = (λ is. sorted, tt)
sorted-new last serial (r ∷ rows) row given next sorted = (
  λ is. absurd (let low = given.0 in omega (arith, low, is, next)),
  sorted-new last serial rows row given.1 next sorted,
)

-- Its frontend.

frontend_set : (frontends : List FrontendRows) (id : ConnId) (own : FrontendRows) (arrival : SessionStart) (tracks : List Track) → IsComing frontends id own →
    with_item id.frontend (with_newcomer arrival tracks) frontends ≡ slice_set frontends id.frontend (with_newcomer arrival tracks own)
frontend_set frontends id own arrival tracks coming = rw coming.there refl

frontend_new : (frontends : List FrontendRows) (id : ConnId) (own : FrontendRows) (arrival : SessionStart) (tracks : List Track) → IsComing frontends id own →
    slice_get (with_item id.frontend (with_newcomer arrival tracks) frontends) id.frontend ≡ Some (with_newcomer arrival tracks own)
frontend_new frontends id own arrival tracks coming =
    ap (λ fs. slice_get fs id.frontend) (frontend_set frontends id own arrival tracks coming) ∙ get-set frontends id.frontend own (with_newcomer arrival tracks own) coming.there

-- the connection is open once it came in
pub newcomer_there : (frontends : List FrontendRows) (id : ConnId) (own : FrontendRows) (arrival : SessionStart) (tracks : List Track) → IsComing frontends id own →
    row_at (with_item id.frontend (with_newcomer arrival tracks) frontends) id ≡ Some (newcomer arrival tracks (own.serial + 1))
newcomer_there frontends id own arrival tracks coming =
    ap (row_in id.serial) (frontend_new frontends id own arrival tracks coming)
    ∙ ap (λ n. row_in n (Some (with_newcomer arrival tracks own))) coming.next
    ∙ find-new own.serial own.rows (newcomer arrival tracks (own.serial + 1)) coming.given refl

pub newcomer_open : (frontends : List FrontendRows) (id : ConnId) (own : FrontendRows) (arrival : SessionStart) (tracks : List Track) → IsComing frontends id own →
    IsSome (row_at (with_item id.frontend (with_newcomer arrival tracks) frontends) id)
newcomer_open frontends id own arrival tracks coming = subst (λ o. IsSome o) (sym (newcomer_there frontends id own arrival tracks coming)) refl

-- it waits, and its version judges it
pub newcomer_waits : (frontends : List FrontendRows) (id : ConnId) (own : FrontendRows) (arrival : SessionStart) (tracks : List Track) → IsComing frontends id own →
    IsSome (rest_at (with_item id.frontend (with_newcomer arrival tracks) frontends) id)
newcomer_waits frontends id own arrival tracks coming =
    subst (λ o. IsSome (option_and_then (λ row. rest_in row.phase) o)) (sym (newcomer_there frontends id own arrival tracks coming)) refl

pub newcomer_judged : (frontends : List FrontendRows) (id : ConnId) (own : FrontendRows) (arrival : SessionStart) (tracks : List Track) → IsComing frontends id own →
    IfSome (row_at (with_item id.frontend (with_newcomer arrival tracks) frontends) id) (λ row. row.version ≡ arrival.version)
newcomer_judged frontends id own arrival tracks coming = subst (λ o. IfSome o (λ row. row.version ≡ arrival.version)) (sym (newcomer_there frontends id own arrival tracks coming)) refl

-- it tracks those, in the order of counters
pub newcomer_tracks : (frontends : List FrontendRows) (id : ConnId) (own : FrontendRows) (arrival : SessionStart) (tracks : List Track) → IsComing frontends id own →
    tracks_at (with_item id.frontend (with_newcomer arrival tracks) frontends) id ≡ by_counter tracks
newcomer_tracks frontends id own arrival tracks coming = ap (λ o. option_map_or (λ row. row.tracks) o []) (newcomer_there frontends id own arrival tracks coming)

pub newcomer_sorted : (frontends : List FrontendRows) (id : ConnId) (own : FrontendRows) (arrival : SessionStart) → IsComing frontends id own →
    AreSorted (with_item id.frontend (with_newcomer arrival []) frontends) id
newcomer_sorted frontends id own arrival coming found there =
    let same : with_newcomer arrival [] own ≡ found =
    let it : Some (with_newcomer arrival [] own) ≡ Some found = sym (frontend_new frontends id own arrival [] coming) ∙ there in cc in
    subst (λ (f : FrontendRows). AllByRecursion (λ row. row.serial ≡ id.serial → by_counter row.tracks ≡ row.tracks) f.rows) same
    (sorted-new own.serial id.serial own.rows (newcomer arrival [] (own.serial + 1)) coming.given coming.next refl)

-- What open connections track.

pub flat_map-set : {X Y : Type 0} (f : X → List Y) (xs : List X) (n : ℕ) (x y : X) → slice_get xs n ≡ Some x → f y ≡ f x → flat_map f (slice_set xs n y) ≡ flat_map f xs
flat_map-set f [] n x y there same = refl
flat_map-set f (z ∷ xs) zero x y there same = let is : z ≡ x = let it : Some z ≡ Some x = there in cc in ap (λ ys. ys ++ flat_map f xs) (same ∙ ap f (sym is))
flat_map-set f (z ∷ xs) (suc n) x y there same = ap (λ ys. f z ++ ys) (flat_map-set f xs n x y there same)

pub tracks-new : (rows : List Row) (row : Row) → row.tracks ≡ [] → flat_map (λ row. row.tracks) (rows ++ row ∷ []) ≡ flat_map (λ row. row.tracks) rows
tracks-new [] row none = rw none refl
tracks-new (r ∷ rows) row none = ap (λ ts. r.tracks ++ ts) (tracks-new rows row none)

-- a connection that comes in tracks nothing at first
pub arrival_tracks : (frontends : List FrontendRows) (id : ConnId) (own : FrontendRows) (arrival : SessionStart) → IsComing frontends id own →
    open_tracks (with_item id.frontend (with_newcomer arrival []) frontends) ≡ open_tracks frontends
arrival_tracks frontends id own arrival coming =
    ap open_tracks (frontend_set frontends id own arrival [] coming)
    ∙ flat_map-set tracks_in frontends id.frontend own (with_newcomer arrival [] own) coming.there (tracks-new own.rows (newcomer arrival [] (own.serial + 1)) refl)

-- What becomes of it.

-- the one that came in is changed
changed_newcomer : (frontends : List FrontendRows) (id : ConnId) (own : FrontendRows) (arrival : SessionStart) (tracks : List Track) (change : Row → Row) → IsComing frontends id own →
    with_conn id change (with_item id.frontend (with_newcomer arrival tracks) frontends)
    ≡ with_item id.frontend (λ f. record f { serial = f.serial + 1; rows = f.rows ++ change (newcomer arrival tracks (f.serial + 1)) ∷ [] }) frontends
changed_newcomer frontends id own arrival tracks change coming =
    item_twice id.frontend (with_newcomer arrival tracks) (with_row id.serial change) frontends
    ∙ rw coming.there (ap (λ n. slice_set frontends id.frontend (record own { serial = own.serial + 1; rows = change_row n change (own.rows ++ newcomer arrival tracks (own.serial + 1) ∷ []) })) coming.next
    ∙ ap (λ rows. slice_set frontends id.frontend (record own { serial = own.serial + 1; rows = rows })) (change-new own.serial change own.rows (newcomer arrival tracks (own.serial + 1)) coming.given refl))

-- it tracks some
pub arrival_tracking : (frontends : List FrontendRows) (id : ConnId) (own : FrontendRows) (arrival : SessionStart) (tracks : List Track) → IsComing frontends id own →
    with_conn id (row_with tracks) (with_item id.frontend (with_newcomer arrival []) frontends) ≡ with_item id.frontend (with_newcomer arrival tracks) frontends
arrival_tracking frontends id own arrival tracks coming = changed_newcomer frontends id own arrival [] (row_with tracks) coming

-- it ended again
newcomer_gone : (frontends : List FrontendRows) (id : ConnId) (own : FrontendRows) (arrival : SessionStart) (tracks : List Track) → IsComing frontends id own →
    without_conn id (with_item id.frontend (with_newcomer arrival tracks) frontends) ≡ with_item id.frontend with_refusal frontends
newcomer_gone frontends id own arrival tracks coming =
    item_twice id.frontend (with_newcomer arrival tracks) (without_row id.serial) frontends
    ∙ rw coming.there (ap (λ n. slice_set frontends id.frontend (record own { serial = own.serial + 1; rows = filter (λ row. not (row.serial == n)) (own.rows ++ newcomer arrival tracks (own.serial + 1) ∷ []) })) coming.next
    ∙ ap (λ rows. slice_set frontends id.frontend (record own { serial = own.serial + 1; rows = rows })) (gone-new own.serial own.rows (newcomer arrival tracks (own.serial + 1)) coming.given refl))

-- The rows at the moment of an accept, once a connection came in, which tracks nothing yet.
pub record HasEntered (old now : RowsValue) (id : ConnId) (arrival : SessionStart) : Type 0 where
  pub frontends : now.frontends ≡ with_item id.frontend (with_newcomer arrival []) old.frontends
  pub versions : now.versions ≡ old.versions
  pub tables : now.tables ≡ tables_alive arrival.accepted (open_tracks old.frontends) old.tables
  pub clock : now.clock ≡ arrival.accepted
  pub down : now.down ≡ old.down
  pub spare : 3 ≤ now.spare

pub has_entered : (old ready came now : RowsValue) (id : ConnId) (own : FrontendRows) (arrival : SessionStart) → IsComing old.frontends id own → 3 ≤ ready.spare → ready ≡ record old { spare = ready.spare } →
    came ≡ record ready { frontends = with_item id.frontend (with_arrival arrival.version arrival.real arrival.accepted) ready.frontends } →
    now ≡ record came { tables = tables_alive arrival.accepted (open_tracks came.frontends) came.tables; clock = arrival.accepted } → HasEntered old now id arrival
has_entered old ready came now id own arrival coming room same ok passed = record {
  frontends = ap (λ (r : RowsValue). r.frontends) passed ∙ fronts;
  versions = ap (λ (r : RowsValue). r.versions) passed ∙ ap (λ (r : RowsValue). r.versions) ok ∙ ap (λ (r : RowsValue). r.versions) same;
  tables = ap (λ (r : RowsValue). r.tables) passed ∙ ap (λ fs. tables_alive arrival.accepted (open_tracks fs) came.tables) fronts
      ∙ ap (λ ts. tables_alive arrival.accepted ts came.tables) (arrival_tracks old.frontends id own arrival coming)
      ∙ ap (tables_alive arrival.accepted (open_tracks old.frontends)) (ap (λ (r : RowsValue). r.tables) ok ∙ ap (λ (r : RowsValue). r.tables) same);
  clock = ap (λ (r : RowsValue). r.clock) passed;
  down = ap (λ (r : RowsValue). r.down) passed ∙ ap (λ (r : RowsValue). r.down) ok ∙ ap (λ (r : RowsValue). r.down) same;
  spare = subst (λ n. 3 ≤ n) (sym (ap (λ (r : RowsValue). r.spare) passed ∙ ap (λ (r : RowsValue). r.spare) ok)) room;
}
  where
    fronts : came.frontends ≡ with_item id.frontend (with_newcomer arrival []) old.frontends
    fronts = ap (λ (r : RowsValue). r.frontends) ok ∙ ap (λ (r : RowsValue). with_item id.frontend (with_newcomer arrival []) r.frontends) same

pub open_once : (old now : RowsValue) (id : ConnId) (own : FrontendRows) (arrival : SessionStart) → IsComing old.frontends id own → HasEntered old now id arrival → IsSome (row_at now.frontends id)
open_once old now id own arrival coming is = subst (λ fs. IsSome (row_at fs id)) (sym is.frontends) (newcomer_open old.frontends id own arrival [] coming)

pub sorted_once : (old now : RowsValue) (id : ConnId) (own : FrontendRows) (arrival : SessionStart) → IsComing old.frontends id own → HasEntered old now id arrival → AreSorted now.frontends id
sorted_once old now id own arrival coming is = subst (λ fs. AreSorted fs id) (sym is.frontends) (newcomer_sorted old.frontends id own arrival coming)

-- what could be tracked can be tracked for it
pub possible_once : (old now : RowsValue) (id : ConnId) (own : FrontendRows) (arrival : SessionStart) (slots : TrackSlots) → IsComing old.frontends id own → HasEntered old now id arrival →
    (source : Addr) × ArePossible (open_tracks old.frontends) (tables_alive arrival.accepted (open_tracks old.frontends) old.tables) [] source slots → (source : Addr) × ArePossible (open_tracks now.frontends) now.tables (tracks_at now.frontends id) source slots
possible_once old now id own arrival slots coming is can =
    let opens : open_tracks now.frontends ≡ open_tracks old.frontends = ap open_tracks is.frontends ∙ arrival_tracks old.frontends id own arrival coming in
    let none : tracks_at now.frontends id ≡ [] = ap (λ fs. tracks_at fs id) is.frontends ∙ newcomer_tracks old.frontends id own arrival [] coming in (
      can.0,
      subst (λ ts. ArePossible (open_tracks now.frontends) now.tables ts can.0 slots) (sym none)
          (subst (λ ts. ArePossible ts now.tables [] can.0 slots) (sym opens)
          (subst (λ ts. ArePossible (open_tracks old.frontends) ts [] can.0 slots) (sym is.tables) can.1)),
    )

-- and then it tracks those
pub tracking_once : (old now after : RowsValue) (id : ConnId) (own : FrontendRows) (arrival : SessionStart) (tracks : List Track) → IsComing old.frontends id own → HasEntered old now id arrival →
    after.frontends ≡ with_conn id (row_with tracks) now.frontends → after.versions ≡ now.versions → after.tables ≡ with_tracks now.clock (open_tracks now.frontends) tracks now.tables → after.down ≡ now.down →
    state_of after ≡ record (state_of old) { frontends = with_item id.frontend (with_newcomer arrival tracks) old.frontends; tables = with_tracks arrival.accepted (open_tracks old.frontends) tracks (tables_alive arrival.accepted (open_tracks old.frontends) old.tables) }
tracking_once old now after id own arrival tracks coming is fronts versions tables down =
    let opens : open_tracks now.frontends ≡ open_tracks old.frontends = ap open_tracks is.frontends ∙ arrival_tracks old.frontends id own arrival coming in
    let f : after.frontends ≡ with_item id.frontend (with_newcomer arrival tracks) old.frontends =
    fronts ∙ ap (with_conn id (row_with tracks)) is.frontends ∙ arrival_tracking old.frontends id own arrival tracks coming in
    let v : after.versions ≡ old.versions = versions ∙ is.versions in
    let t : after.tables ≡ with_tracks arrival.accepted (open_tracks old.frontends) tracks (tables_alive arrival.accepted (open_tracks old.frontends) old.tables) =
    tables ∙ ap (λ n. with_tracks n (open_tracks now.frontends) tracks now.tables) is.clock ∙ ap (λ ts. with_tracks arrival.accepted ts tracks now.tables) opens
    ∙ ap (with_tracks arrival.accepted (open_tracks old.frontends) tracks) is.tables in
    let d : after.down ≡ old.down = down ∙ is.down in
    cc (f, v, t, d)

-- Decisions.

-- the frontends once a decision of that outcome is kept
abbrev entered_by : List Version → SessionStart → List Track → ConnId → List FrontendRows → Outcome → List FrontendRows
entered_by versions arrival tracks id frontends outcome =
    with_item id.frontend (λ own. record own { serial = own.serial + 1; rows = own.rows ++ entered_row versions arrival tracks outcome (own.serial + 1) }) frontends

entered_offer : (frontends : List FrontendRows) (versions : List Version) (id : ConnId) (own : FrontendRows) (arrival : SessionStart) (decision : TrackedOutcome) (offer : Offer) → IsComing frontends id own →
    decision.outcome ≡ outcomes.Offer offer → with_conn id (row_offered versions offer.seat) (with_item id.frontend (with_newcomer arrival (present decision.tracks)) frontends)
    ≡ with_item id.frontend (entered versions arrival decision) frontends
entered_offer frontends versions id own arrival decision offer coming is =
    changed_newcomer frontends id own arrival (present decision.tracks) (row_offered versions offer.seat) coming
    ∙ ap (entered_by versions arrival (present decision.tracks) id frontends) (sym is)

-- a refused one leaves no row
entered_skip : (frontends : List FrontendRows) (versions : List Version) (id : ConnId) (own : FrontendRows) (arrival : SessionStart) (decision : TrackedOutcome) (cause : Cause) → IsComing frontends id own →
    decision.outcome ≡ outcomes.Refuse cause → with_item id.frontend with_refusal frontends ≡ with_item id.frontend (entered versions arrival decision) frontends
entered_skip frontends versions id own arrival decision cause coming is =
    rw coming.there (ap (λ rows. slice_set frontends id.frontend (record own { serial = own.serial + 1; rows = rows })) (sym (append-nil own.rows)
    ∙ ap (λ o. own.rows ++ entered_row versions arrival (present decision.tracks) o (own.serial + 1)) (sym is)))

entered_gone : (frontends : List FrontendRows) (versions : List Version) (id : ConnId) (own : FrontendRows) (arrival : SessionStart) (decision : TrackedOutcome) (cause : Cause) → IsComing frontends id own →
    decision.outcome ≡ outcomes.Refuse cause →
    without_conn id (with_item id.frontend (with_newcomer arrival (present decision.tracks)) frontends) ≡ with_item id.frontend (entered versions arrival decision) frontends
entered_gone frontends versions id own arrival decision cause coming is =
    newcomer_gone frontends id own arrival (present decision.tracks) coming ∙ entered_skip frontends versions id own arrival decision cause coming is

-- Tables.

tables_offer : (moment : ℕ) (frontends : List FrontendRows) (tables : List TableState) (id : ConnId) (decision : TrackedOutcome) (offer : Offer) → decision.outcome ≡ outcomes.Offer offer →
    with_tracks moment (open_tracks frontends) (present decision.tracks) tables ≡ tables_by moment frontends tables (reply_by id 0 decision)
tables_offer moment frontends tables id decision offer is = rw is refl

-- what a refused connection tracked is no longer tracked
tables_refused : (moment : ℕ) (frontends : List FrontendRows) (tables : List TableState) (id : ConnId) (own : FrontendRows) (decision : TrackedOutcome) (cause : Cause) → IsComing frontends id own →
    decision.outcome ≡ outcomes.Refuse cause →
    without_tracks moment (by_counter (present decision.tracks)) (with_tracks moment (open_tracks frontends) (present decision.tracks) tables) ≡ tables_by moment frontends tables (reply_by id 0 decision)
tables_refused moment frontends tables id own decision cause coming is =
    let none : tracks_at frontends id ≡ [] = none_tracked frontends id own coming.there coming.given coming.next in
    rw (is, none) refl

-- The rows at the moment of an accept, once a decision is kept.

abbrev tables_then : RowsValue → SessionStart → List TableState
tables_then old arrival = tables_alive arrival.accepted (open_tracks old.frontends) old.tables

abbrev state_with : RowsValue → ConnId → SessionStart → List Track → RowsState
state_with old id arrival tracks = record (state_of old) {
  frontends = with_item id.frontend (with_newcomer arrival tracks) old.frontends;
  tables = with_tracks arrival.accepted (open_tracks old.frontends) tracks (tables_then old arrival);
}

abbrev state_entered : RowsValue → ConnId → SessionStart → TrackedOutcome → RowsState
state_entered old id arrival decision = record (state_of old) {
  frontends = with_item id.frontend (entered old.versions arrival decision) old.frontends;
  versions = settled_versions arrival.version decision.outcome old.versions;
  tables = tables_by arrival.accepted old.frontends (tables_then old arrival) (reply_by id 0 decision);
}

pub offered_once : (old now after : RowsValue) (id : ConnId) (own : FrontendRows) (arrival : SessionStart) (decision : TrackedOutcome) (offer : Offer) → IsComing old.frontends id own → decision.outcome ≡ outcomes.Offer offer →
    state_of now ≡ state_with old id arrival (present decision.tracks) → after ≡ record now { frontends = with_conn id (row_offered now.versions offer.seat) now.frontends; versions = map (with_offer arrival.version offer.seat.line offer.seat.server) now.versions } →
    state_of after ≡ state_entered old id arrival decision
offered_once old now after id own arrival decision offer coming is came offered =
    let versions : now.versions ≡ old.versions = ap (λ (s : RowsState). s.versions) came in
    let f : after.frontends ≡ with_item id.frontend (entered old.versions arrival decision) old.frontends =
    ap (λ (r : RowsValue). r.frontends) offered ∙ ap (λ vs. with_conn id (row_offered vs offer.seat) now.frontends) versions
    ∙ ap (λ (s : RowsState). with_conn id (row_offered old.versions offer.seat) s.frontends) came ∙ entered_offer old.frontends old.versions id own arrival decision offer coming is in
    let v : after.versions ≡ settled_versions arrival.version decision.outcome old.versions =
    ap (λ (r : RowsValue). r.versions) offered ∙ ap (map (with_offer arrival.version offer.seat.line offer.seat.server)) versions ∙ ap (λ o. settled_versions arrival.version o old.versions) (sym is) in
    let t : after.tables ≡ tables_by arrival.accepted old.frontends (tables_then old arrival) (reply_by id 0 decision) =
    ap (λ (r : RowsValue). r.tables) offered ∙ ap (λ (s : RowsState). s.tables) came ∙ tables_offer arrival.accepted old.frontends (tables_then old arrival) id decision offer is in
    let d : after.down ≡ old.down = ap (λ (r : RowsValue). r.down) offered ∙ ap (λ (s : RowsState). s.down) came in
    cc (f, v, t, d)

-- a refused connection that tracks nothing
pub skipped_once : (old passed after : RowsValue) (id : ConnId) (own : FrontendRows) (arrival : SessionStart) (decision : TrackedOutcome) (cause : Cause) → IsComing old.frontends id own → decision.outcome ≡ outcomes.Refuse cause →
    present decision.tracks ≡ [] → passed ≡ record old { tables = tables_then old arrival; clock = arrival.accepted } → after ≡ record passed { frontends = with_item id.frontend with_refusal passed.frontends } → state_of after ≡ state_entered old id arrival decision
skipped_once old passed after id own arrival decision cause coming is none passing skipped =
    let f : after.frontends ≡ with_item id.frontend (entered old.versions arrival decision) old.frontends =
    ap (λ (r : RowsValue). r.frontends) skipped ∙ ap (λ (r : RowsValue). with_item id.frontend with_refusal r.frontends) passing ∙ entered_skip old.frontends old.versions id own arrival decision cause coming is in
    let v : after.versions ≡ settled_versions arrival.version decision.outcome old.versions =
    ap (λ (r : RowsValue). r.versions) skipped ∙ ap (λ (r : RowsValue). r.versions) passing ∙ ap (λ o. settled_versions arrival.version o old.versions) (sym is) in
    let t : after.tables ≡ tables_by arrival.accepted old.frontends (tables_then old arrival) (reply_by id 0 decision) =
    ap (λ (r : RowsValue). r.tables) skipped ∙ ap (λ (r : RowsValue). r.tables) passing
    ∙ ap (λ ts. without_tracks arrival.accepted (by_counter ts) (with_tracks arrival.accepted (open_tracks old.frontends) ts (tables_then old arrival))) (sym none)
    ∙ tables_refused arrival.accepted old.frontends (tables_then old arrival) id own decision cause coming is in
    let d : after.down ≡ old.down = ap (λ (r : RowsValue). r.down) skipped ∙ ap (λ (r : RowsValue). r.down) passing in
    cc (f, v, t, d)

-- a refused connection that tracks some
pub removed_once : (old now after : RowsValue) (id : ConnId) (own : FrontendRows) (arrival : SessionStart) (decision : TrackedOutcome) (cause : Cause) → IsComing old.frontends id own → decision.outcome ≡ outcomes.Refuse cause →
    state_of now ≡ state_with old id arrival (present decision.tracks) → now.clock ≡ arrival.accepted →
    after ≡ record now { frontends = without_conn id now.frontends; tables = without_tracks now.clock (tracks_at now.frontends id) now.tables } → state_of after ≡ state_entered old id arrival decision
removed_once old now after id own arrival decision cause coming is came clock removed =
    let tracks : List Track = present decision.tracks in
    let fronts : now.frontends ≡ with_item id.frontend (with_newcomer arrival tracks) old.frontends = ap (λ (s : RowsState). s.frontends) came in
    let f : after.frontends ≡ with_item id.frontend (entered old.versions arrival decision) old.frontends =
    ap (λ (r : RowsValue). r.frontends) removed ∙ ap (without_conn id) fronts ∙ entered_gone old.frontends old.versions id own arrival decision cause coming is in
    let v : after.versions ≡ settled_versions arrival.version decision.outcome old.versions =
    ap (λ (r : RowsValue). r.versions) removed ∙ ap (λ (s : RowsState). s.versions) came ∙ ap (λ o. settled_versions arrival.version o old.versions) (sym is) in
    let made : tracks_at now.frontends id ≡ by_counter tracks = ap (λ fs. tracks_at fs id) fronts ∙ newcomer_tracks old.frontends id own arrival tracks coming in
    let t : after.tables ≡ tables_by arrival.accepted old.frontends (tables_then old arrival) (reply_by id 0 decision) =
    ap (λ (r : RowsValue). r.tables) removed ∙ ap (λ n. without_tracks n (tracks_at now.frontends id) now.tables) clock ∙ ap (λ ts. without_tracks arrival.accepted ts now.tables) made
    ∙ ap (λ (s : RowsState). without_tracks arrival.accepted (by_counter tracks) s.tables) came
    ∙ tables_refused arrival.accepted old.frontends (tables_then old arrival) id own decision cause coming is in
    let d : after.down ≡ old.down = ap (λ (r : RowsValue). r.down) removed ∙ ap (λ (s : RowsState). s.down) came in
    cc (f, v, t, d)
