-- What rules see of a connection.
use Rattle.std.proofs.Common.{max, ◌≡◌, ℕ, suc, ◌+◌, ◌≤◌, Bool, true, false, List, [], ◌∷◌, ◌++◌, length, Option, Some, None, refl, ◌∙◌, sym, ap, append-nil, arith}
use Rattle.std.specs.Prelude.{slice_get, slice_set, filter, flat_map, option_map, ◌==◌, ◌&&◌, if◌then◌else◌}
use Rattle.std.specs.List.{AllByRecursion}
use Rattle.std.specs.Option.{option_map_or}
use Rattle.std.specs.Str.{bytes_eq}
use Rattle.std.proofs.Math.Path.{fun_ext}
use Rattle.std.proofs.lemmas.List.{length_push, length-map}
use Rattle.std.proofs.lemmas.List.Elements.{filter-append}
use Rattle.addr_core.specs.declared.addr.Addr.{Addr}
use Rattle.addr_core.specs.PairValue.{PairValue}
use Rattle.proxy_types.specs.declared.server.ServerIdentity.{ServerIdentity}
use Rattle.proxy_types.specs.ServerIdentity.{same_server}
use Rattle.plan_types.specs.declared.plan.Frontend.{Frontend}
use Rattle.plan_types.specs.declared.track.Track.{Track}
use Rattle.rule_engine.specs.Meaning.{present}
use Rattle.conn_model.specs.declared.event.ConnId.{ConnId}
use Rattle.conn_model.specs.declared.plain.Phase.{Phase}
use Rattle.conn_model.specs.declared.plain.Phase.TheVariants.{Waiting, Offered, Up}
use Rattle.conn_model.specs.declared.plain.Row.{Row}
use Rattle.conn_model.specs.declared.plain.FrontendRows.{FrontendRows}
use Rattle.conn_model.specs.declared.plain.Listener.{Listener}
use Rattle.conn_model.specs.declared.plain.TableState.{TableState}
use Rattle.conn_model.specs.declared.plain.Version.{Version}
use Rattle.conn_model.specs.declared.plain.Plain.{Plain}
use Rattle.conn_model.specs.Counts.{open_in, open_named, open_if, offered_to, offered_in, is_offered_to, is_served_by, served_by, served_in, server_of, total, change_row}
use Rattle.conn_model.specs.Rules.{RuleView, view_of}
use Rattle.conn_model.specs.Tables.{tables_alive, open_tracks, tracks_at, tracks_in}
use Rattle.conn_model.specs.Words.{newest, row_at, row_in}
use Rattle.conn_model.specs.Answer.{candidate_at, candidate_of, frontend_in, new_row}
use Rattle.conn_model.proofs.Offers.{served_with}
use Rattle.conn_model.specs.Changes.{phase_fed, row_fed, with_conn, with_item, with_row}
use Rattle.conn_rows.specs.Value.{RowsValue}
use Rattle.list_core.proofs.PlaceLemmas.{get-set}
use Rattle.conn_model.proofs.Changes.{own_changed, row_changed}
use Rattle.conn_model.proofs.Totals.{total-set}
use Rattle.conn_core.specs.declared.facts.RuleFacts.{RuleFacts}
use Rattle.conn_core.specs.Counts.{IsSeen}
use Rattle.conn_core.specs.Judging.{arrival_in, facts_view, rows_at}
use Rattle.conn_core.specs.Seeing.{SeesNext}
use Rattle.conn_core.proofs.EnterLemmas.{find-new, flat_map-set, tracks-new}
use Rattle.conn_model.specs.Servers.{is_down}
use Rattle.plan_types.specs.declared.plan.Backend.{Backend}
use Rattle.plan_types.specs.declared.plan.Server.{Server}

-- a total with one item in place of another that counts for some more
total-gain : {X : Type 0} (f : X → ℕ) (xs : List X) (n : ℕ) (x y : X) (more : ℕ) → slice_get xs n ≡ Some x → f y ≡ f x + more → total f (slice_set xs n y) ≡ total f xs + more
total-gain f xs n x y more there is = let all : total f (slice_set xs n y) + f x ≡ total f xs + f y = total-set f xs n x y there in omega (arith, all, is)

-- a total with one item changed that counts the same
total-item : {X : Type 0} (f : X → ℕ) (change : X → X) (xs : List X) (n : ℕ) → ((x : X) → f (change x) ≡ f x) → total f (with_item n change xs) ≡ total f xs
total-item {X} f change xs n same = by (slice_get xs n) refl
  where
    by : (o : Option X) → slice_get xs n ≡ o → total f (with_item n change xs) ≡ total f xs
    by None none = rw none refl
    by (Some x) there =
        let zero_more : f (change x) ≡ f x + 0 = let e = same x in omega (arith, e) in
        let set : with_item n change xs ≡ slice_set xs n (change x) = rw there refl in
        let all = total-gain f xs n x (change x) 0 there zero_more in
        ap (total f) set ∙ (omega (arith, all))

-- a connection that comes

one_more : (b : Bool) (n : ℕ) → (if b then n + 1 else 0) ≡ (if b then n else 0) + (if true && b then 1 else 0)
one_more true n = refl
one_more false n = refl

-- one that waits is counted for no server
counted-arrival : (test : Row → Bool) (rows : List Row) (row : Row) → test row ≡ false → length (filter test (rows ++ row ∷ [])) ≡ length (filter test rows)
counted-arrival test rows row none = ap length (filter-append test rows (row ∷ []) ∙ rw none (append-nil (filter test rows)))

-- Views.

-- views are equal by their parts
view_is : {s s' : Addr} {v v' : Version} {f f' : Frontend} {ts ts' : List TableState} {os os' ms ms' : List Track} {n n' : ℕ} {named named' offered offered' : List ℕ → ℕ} {served served' : ServerIdentity → ℕ} {barred barred' : Backend → Server → Bool} {made : List Track} →
    s ≡ s' → v ≡ v' → f ≡ f' → ts ≡ ts' → os ≡ os' → ms ≡ ms' → n ≡ n' → named ≡ named' → offered ≡ offered' → served ≡ served' → barred ≡ barred' →
    ◌≡◌ {A = RuleView}
    (record { source = s; version = v; frontend = f; tables = ts; tracks = os; own = ms; made = made; connections = n; named = named; offered = offered; served = served; barred = barred })
    (record { source = s'; version = v'; frontend = f'; tables = ts'; tracks = os'; own = ms'; made = made; connections = n'; named = named'; offered = offered'; served = served'; barred = barred' })
view_is e1 e2 e3 e4 e5 e6 e7 e8 e9 e10 e11 = cc (e1, e2, e3, e4, e5, e6, e7, e8, e9, e10, e11)

pub record SeesArrival (p : Plain) (own : FrontendRows) (version : Version) (frontend : Frontend) (facts : RuleFacts) (source : Addr) : Type 0 where
  pub rows : facts.rows.now.frontends ≡ p.frontends
  pub tables : (rows_at facts.moment facts.rows.now).tables ≡ p.tables
  pub down : facts.rows.now.down ≡ p.down
  pub version_is : facts.version.now ≡ version
  pub frontend_is : facts.frontend.now ≡ frontend
  pub name : facts.name.now ≡ own.name
  pub connections : facts.connections ≡ length own.rows + 1
  pub arriving : facts.arriving ≡ true
  pub none : present facts.own ≡ []
  pub judged : facts.source ≡ source

-- the candidate is one of the open connections of its frontend
pub view_at_accept : (p : Plain) (clock number : ℕ) (real : PairValue) (own : FrontendRows) (version : Version) (frontend : Frontend) (facts : RuleFacts) →
    slice_get p.frontends number ≡ Some own → AllByRecursion (λ row. row.serial ≤ own.serial) own.rows → SeesArrival p own version frontend facts real.source.addr →
    view_of (candidate_at p clock number real own version frontend) real.source.addr ≡ facts_view facts
view_at_accept p clock number real own version frontend facts there given sees = fun_ext by
  where
    after : FrontendRows
    after = record own { serial = own.serial + 1; rows = own.rows ++ new_row (own.serial + 1) version.number real clock ∷ [] }

    longer : length after.rows ≡ length own.rows + 1
    longer = length_push own.rows (new_row (own.serial + 1) version.number real clock)

    named : (name : List ℕ) → open_named (slice_set p.frontends number after) name ≡ open_named facts.rows.now.frontends name + arrival_in facts.arriving facts.name.now name
    named name =
        let more : open_if name after ≡ open_if name own + arrival_in true own.name name =
        ap (λ n. if bytes_eq own.name name then n else 0) longer ∙ one_more (bytes_eq own.name name) (length own.rows) in
        total-gain (open_if name) p.frontends number own after (arrival_in true own.name name) there more
        ∙ ap (λ fs. open_named fs name + arrival_in true own.name name) (sym sees.rows)
        ∙ ap (λ n. open_named facts.rows.now.frontends name + arrival_in true n name) (sym sees.name)
        ∙ ap (λ b. open_named facts.rows.now.frontends name + arrival_in b facts.name.now name) (sym sees.arriving)

    offered : (name : List ℕ) → offered_to (slice_set p.frontends number after) name ≡ offered_to facts.rows.now.frontends name
    offered name =
        let same = counted-arrival (λ row. is_offered_to name row.phase) own.rows (new_row (own.serial + 1) version.number real clock) refl in
        let all = total-gain (offered_in name) p.frontends number own after 0 there (omega (arith, same)) in
        (omega (arith, all)) ∙ ap (λ fs. offered_to fs name) (sym sees.rows)

    served : served_by (slice_set p.frontends number after) ≡ served_by facts.rows.now.frontends
    served = served_with p clock number real own version frontend there ∙ ap served_by (sym sees.rows)

    tracks : open_tracks (slice_set p.frontends number after) ≡ open_tracks facts.rows.now.frontends
    tracks = flat_map-set tracks_in p.frontends number own after there (tracks-new own.rows (new_row (own.serial + 1) version.number real clock) refl) ∙ ap open_tracks (sym sees.rows)

    nothing : tracks_at (slice_set p.frontends number after) (record { frontend = number; serial = own.serial + 1 }) ≡ present facts.own
    nothing =
        ap (λ o. option_map_or (λ row. row.tracks) (row_in (own.serial + 1) o) []) (get-set p.frontends number own after there)
        ∙ ap (λ o. option_map_or (λ row. row.tracks) o []) (find-new own.serial own.rows (new_row (own.serial + 1) version.number real clock) given refl)
        ∙ sym sees.none

    count : open_in (slice_set p.frontends number after) number ≡ facts.connections
    count = ap (λ o. option_map_or (λ f. length f.rows) o 0) (get-set p.frontends number own after there) ∙ longer ∙ sym sees.connections

    by : (made : List Track) → view_of (candidate_at p clock number real own version frontend) real.source.addr made ≡ facts_view facts made
    by made = view_is (sym sees.judged) (sym sees.version_is) (sym sees.frontend_is) (sym sees.tables) tracks nothing count (fun_ext named) (fun_ext offered) served (ap is_down (sym sees.down))

-- what rules see of the one that comes next
pub sees_next : {facts : RuleFacts} (p : Plain) (listener : ℕ) (at : Listener) (real : PairValue) (own : FrontendRows) (version : Version) (frontend : Frontend) →
    slice_get p.listeners listener ≡ Some at → slice_get p.frontends at.frontend ≡ Some own → AllByRecursion (λ row. row.serial ≤ own.serial) own.rows →
    newest p.versions ≡ Some version → frontend_in version.plan own.name ≡ Some frontend → SeesArrival p own version frontend facts real.source.addr → SeesNext p listener real facts
sees_next {facts} p listener at real own version frontend listens there given newest_is named sees = record {
  at = at;
  own = own;
  listens = listens;
  there = there;
  newest_is = newest_is ∙ ap (λ v. Some v) (sym sees.version_is);
  named = ap (λ (v : Version). frontend_in v.plan own.name) sees.version_is ∙ named ∙ ap (λ f. Some f) (sym sees.frontend_is);
  view = λ clock.
      sym (view_at_accept p clock at.frontend real own version frontend facts there given sees)
      ∙ ap (λ (v : Version). view_of (candidate_at p clock at.frontend real own v frontend) real.source.addr) (sym sees.version_is)
      ∙ ap (λ (f : Frontend). view_of (candidate_at p clock at.frontend real own facts.version.now f) real.source.addr) (sym sees.frontend_is);
}

-- a connection that is open

pub record SeesOpen (number : ℕ) (version : Version) (frontend : Frontend) (facts : RuleFacts) (source : Addr) : Type 0 where
  pub version_is : facts.version.now ≡ version
  pub frontend_is : facts.frontend.now ≡ frontend
  pub connections : facts.connections ≡ open_in facts.rows.now.frontends number
  pub arriving : facts.arriving ≡ false
  pub judged : facts.source ≡ source

pub view_later : (state : Plain) (id : ConnId) (version : Version) (frontend : Frontend) (facts : RuleFacts) (source : Addr) →
    IsSeen id state (rows_at facts.moment facts.rows.now) → present facts.own ≡ tracks_at facts.rows.now.frontends id → SeesOpen id.frontend version frontend facts source →
    view_of (candidate_of state id version frontend) source ≡ facts_view facts
view_later state id version frontend facts source same own sees = fun_ext by
  where
    none : (n : ℕ) → n ≡ n + 0
    none n = omega arith

    named : (name : List ℕ) → open_named state.frontends name ≡ open_named facts.rows.now.frontends name + arrival_in facts.arriving facts.name.now name
    named name =
        same.named name ∙ none (open_named facts.rows.now.frontends name)
        ∙ ap (λ b. open_named facts.rows.now.frontends name + arrival_in b facts.name.now name) (sym sees.arriving)

    by : (made : List Track) → view_of (candidate_of state id version frontend) source made ≡ facts_view facts made
    by made = view_is (sym sees.judged) (sym sees.version_is) (sym sees.frontend_is) same.tables same.tracks (same.tracked ∙ sym own) (same.own ∙ sym sees.connections) (fun_ext named) (fun_ext same.offered) (fun_ext same.served) (ap is_down same.down)

-- At the moment up to which time has passed, rules see the rows as they are.
pub rows_now : (moment : ℕ) (rows : RowsValue) → moment ≡ rows.clock → tables_alive rows.clock (open_tracks rows.frontends) rows.tables ≡ rows.tables → rows_at moment rows ≡ rows
rows_now moment rows same alive =
    let now : max rows.clock moment ≡ rows.clock = omega (arith, same) in
    ap (λ n. record rows { tables = tables_alive n (open_tracks rows.frontends) rows.tables; clock = n }) now ∙ ap (λ ts. record rows { tables = ts }) alive

-- A change that rules do not see.

pub record IsUnseen (change : Row → Row) : Type 0 where
  pub serial : (row : Row) → (change row).serial ≡ row.serial
  pub tracks : (row : Row) → (change row).tracks ≡ row.tracks
  pub server : (row : Row) → server_of (change row).phase ≡ server_of row.phase

counted-same : (test : Row → Bool) (serial : ℕ) (change : Row → Row) (rows : List Row) → ((row : Row) → test (change row) ≡ test row) →
    length (filter test (change_row serial change rows)) ≡ length (filter test rows)
counted-same test serial change [] same = refl
counted-same test serial change (row ∷ rows) same = by (test row) refl (counted-same test serial change rows same)
  where
    now : Row
    now = if row.serial == serial then change row else row

    alike : (b : Bool) → test (if b then change row else row) ≡ test row
    alike true = same row
    alike false = refl

    by : (b : Bool) → test row ≡ b → length (filter test (change_row serial change rows)) ≡ length (filter test rows) → length (filter test (now ∷ change_row serial change rows)) ≡ length (filter test (row ∷ rows))
    by true is rest = rw (alike (row.serial == serial), is) (ap (λ n. suc n) rest)
    by false is rest = rw (alike (row.serial == serial), is) rest

tracks-same : (serial : ℕ) (change : Row → Row) (rows : List Row) → ((row : Row) → (change row).tracks ≡ row.tracks) →
    flat_map (λ (row : Row). row.tracks) (change_row serial change rows) ≡ flat_map (λ (row : Row). row.tracks) rows
tracks-same serial change [] same = refl
tracks-same serial change (row ∷ rows) same =
    ap (λ ts. ts ++ flat_map (λ (r : Row). r.tracks) (change_row serial change rows)) (alike (row.serial == serial)) ∙ ap (λ ts. row.tracks ++ ts) (tracks-same serial change rows same)
  where
    alike : (b : Bool) → (if b then change row else row).tracks ≡ row.tracks
    alike true = same row
    alike false = refl

pub open_tracks-same : (id : ConnId) (change : Row → Row) (frontends : List FrontendRows) → IsUnseen change → open_tracks (with_conn id change frontends) ≡ open_tracks frontends
open_tracks-same id change frontends unseen = by (slice_get frontends id.frontend) refl
  where
    by : (o : Option FrontendRows) → slice_get frontends id.frontend ≡ o → open_tracks (with_conn id change frontends) ≡ open_tracks frontends
    by None none = rw none refl
    by (Some own) there = rw there (flat_map-set tracks_in frontends id.frontend own (with_row id.serial change own) there (tracks-same id.serial change own.rows unseen.tracks))

pub tracks_at-same : (id : ConnId) (change : Row → Row) (frontends : List FrontendRows) → IsUnseen change → tracks_at (with_conn id change frontends) id ≡ tracks_at frontends id
tracks_at-same id change frontends unseen = ap (λ o. option_map_or (λ (row : Row). row.tracks) o []) (row_changed id change frontends unseen.serial) ∙ by (row_at frontends id)
  where
    by : (o : Option Row) → option_map_or (λ (row : Row). row.tracks) (option_map change o) [] ≡ option_map_or (λ (row : Row). row.tracks) o []
    by None = refl
    by (Some row) = unseen.tracks row

-- rules see the same after it
seen_changed : (id : ConnId) (change : Row → Row) (state : Plain) (rows : RowsValue) → IsUnseen change → state.frontends ≡ rows.frontends → state.tables ≡ rows.tables → state.down ≡ rows.down →
    IsSeen id state (record rows { frontends = with_conn id change rows.frontends })
seen_changed id change state rows unseen same tables down = record {
  own = ap (λ fs. open_in fs id.frontend) same ∙ sym (ap (λ o. option_map_or (λ f. length f.rows) o 0) (own_changed id change rows.frontends) ∙ by (slice_get rows.frontends id.frontend));
  named = λ name. ap (λ fs. open_named fs name) same ∙ sym (total-item (open_if name) (with_row id.serial change) rows.frontends id.frontend (λ own. ap (λ n. if bytes_eq own.name name then n else 0) (many own.rows)));
  offered = λ name. ap (λ fs. offered_to fs name) same ∙ sym (total-item (offered_in name) (with_row id.serial change) rows.frontends id.frontend (λ own. counted-same (λ row. is_offered_to name row.phase) id.serial change own.rows
      (λ row. ap (λ o. option_map_or (λ server. bytes_eq server.backend name) o false) (unseen.server row))));
  served = λ server. ap (λ fs. served_by fs server) same ∙ sym (total-item (served_in server) (with_row id.serial change) rows.frontends id.frontend (λ own. counted-same (λ row. is_served_by server row.phase) id.serial change own.rows
      (λ row. ap (λ o. option_map_or (same_server server) o false) (unseen.server row))));
  tracks = ap open_tracks same ∙ sym (open_tracks-same id change rows.frontends unseen);
  tracked = ap (λ fs. tracks_at fs id) same ∙ sym (tracks_at-same id change rows.frontends unseen);
  tables = tables;
  down = down;
}
  where
    many : (list : List Row) → length (change_row id.serial change list) ≡ length list
    many list = length-map list (λ row. if row.serial == id.serial then change row else row)

    by : (o : Option FrontendRows) → option_map_or (λ f. length f.rows) (option_map (with_row id.serial change) o) 0 ≡ option_map_or (λ f. length f.rows) o 0
    by None = refl
    by (Some own) = many own.rows

-- a piece is such a change
pub fed_unseen : (piece : List ℕ) → IsUnseen (row_fed piece)
fed_unseen piece = record { serial = λ row. refl; tracks = λ row. refl; server = λ row. by row.phase }
  where
    by : (phase : Phase) → server_of (phase_fed piece phase) ≡ server_of phase
    by (Waiting rest) = refl
    by (Offered assignment) = refl
    by (Up assignment) = refl

pub seen_fed : (id : ConnId) (piece : List ℕ) (state : Plain) (rows : RowsValue) → state.frontends ≡ rows.frontends → state.tables ≡ rows.tables → state.down ≡ rows.down →
    IsSeen id state (record rows { frontends = with_conn id (row_fed piece) rows.frontends })
seen_fed id piece state rows same tables down = seen_changed id (row_fed piece) state rows (fed_unseen piece) same tables down
