-- A part's connection, judged in two states that look the same to the part: its rules say the same, and pick the same
-- server.
use Rattle.std.specs.Prelude.{ℕ, zero, suc, Bool, true, false, not, is_some, List, [], map, find, zip, slice_get, Option, Some, None, option_map, option_and_then, Result, refl, ◌+◌, ◌≡◌, ◌==◌, ◌&&◌, ◌||◌, ◌∷◌, ◌++◌, if◌then◌else◌}
use Rattle.std.specs.List.{list_any, AllByRecursion}
use Rattle.std.specs.Option.{option_map_or, option_or}
use Rattle.std.proofs.Common.{sym, ap, ◌∙◌}
use Rattle.std.proofs.Math.Path.{fun_ext}
use Rattle.list_core.specs.Each.{◌>>=◌}
use Rattle.addr_core.specs.declared.addr.Addr.{Addr}
use Rattle.proxy_types.specs.declared.balance.Place.{Place}
use Rattle.proxy_types.specs.declared.server.ServerIdentity.{ServerIdentity}
use Rattle.proxy_types.specs.ServerIdentity.{same_server}
use Rattle.proxy_types.specs.declared.table.Stores.{Stores}
use Rattle.stick_core.specs.Key.{key_in}
use Rattle.stick_core.specs.PlainEntries.{tracked_key}
use Rattle.acl_core.specs.declared.criterion.Criterion.{Criterion}
use Rattle.acl_core.specs.declared.criterion.Criterion.TheVariants as criteria
use Rattle.acl_core.specs.declared.criterion.Value.TheVariants as values
use Rattle.acl_core.specs.Truth.{applies}
use Rattle.balance_core.specs.declared.load.ServerLoad.{ServerLoad}
use Rattle.balance_core.specs.Picks.{picked}
use Rattle.plan_types.specs.Tables.{table_number}
use Rattle.plan_types.specs.declared.plan.Backend.{Backend}
use Rattle.plan_types.specs.declared.plan.Choice.{Choice}
use Rattle.plan_types.specs.declared.plan.Frontend.{Frontend}
use Rattle.plan_types.specs.declared.plan.Plan.{Plan}
use Rattle.plan_types.specs.declared.plan.Server.{Server}
use Rattle.plan_types.specs.declared.plan.Table.{Table}
use Rattle.plan_types.specs.declared.track.TableId.{TableId}
use Rattle.plan_types.specs.declared.track.Track.{Track}
use Rattle.conn_model.specs.declared.event.ConnId.{ConnId}
use Rattle.conn_model.specs.declared.plain.Plain.{Plain}
use Rattle.conn_model.specs.declared.plain.TableState.{TableState}
use Rattle.conn_model.specs.declared.plain.Version.{Version}
use Rattle.conn_model.specs.declared.reply.Cause.{Cause}
use Rattle.conn_model.specs.declared.reply.Cause.TheVariants.{NoBackend, NoServer}
use Rattle.conn_model.specs.Words.{or_fault}
use Rattle.conn_model.specs.Counts.{offered_to, open_in, open_named, served_by}
use Rattle.conn_model.specs.Servers.{cursor_at, has_room, identity_in, is_down, load_of, loads_of, pick_in, weight_by}
use Rattle.conn_model.specs.Tables.{open_tracks, same_id, table_at, trackers, tracks_at}
use Rattle.conn_model.specs.Rules.{backend_for, counted, current_of, key_in_table, key_of, named_table, numbered_table, own_track, source_value, total_of, tracked_value, view_of, worth, RuleView}
use Rattle.conn_model.specs.Answer.{candidate_of, numbered_server, server_for, NumberedServer}
use Rattle.conn_model.proofs.Lists.{all-append, all-found}
use Rattle.conn_model.proofs.OneTable.{same_id-refl, table_found}
use Rattle.tenant_laws.specs.Parts.{choice_passes, choices_pass, keeps_backend, keeps_criterion, keeps_meant, owns_backend_at, owns_table, owns_table_at, when_passes, Part}
use Rattle.tenant_laws.specs.Agreement.{is_own_id}
use Rattle.tenant_laws.proofs.Lists.{both, contrary, nothing, some_same}
use Rattle.tenant_laws.proofs.Truth.{applies-kept, find-kept}
use Rattle.conn_model.proofs.Trackers.{trackers-append}

-- the incarnation at a number that the part owns is the part's
pub own-at : (part : Part) (version : Version) (number : ℕ) (id : TableId) → owns_table_at part version.plan number ≡ true → slice_get version.tables number ≡ Some id →
    is_own_id part version id ≡ true
own-at part version number id owns there = go version.plan.tables version.tables number owns there
  where
    or_true : (b : Bool) → (b || true) ≡ true
    or_true true = refl
    or_true false = refl

    go : (tables : List Table) (ids : List TableId) (n : ℕ) → option_map_or (owns_table part) (slice_get tables n) false ≡ true → slice_get ids n ≡ Some id →
        list_any (λ (pair : Table × TableId). owns_table part pair.0 && same_id pair.1 id) (zip tables ids) ≡ true
    go [] ids n owns there = contrary false owns refl
    go (t ∷ tables) [] n owns there = nothing there
    go (t ∷ tables) (i ∷ ids) zero owns there = let same : i ≡ id = some_same there in rw (owns, same, same_id-refl id) refl
    go (t ∷ tables) (i ∷ ids) (suc n) owns there = rw (go tables ids n owns there) (or_true (owns_table part t && same_id i id))

-- the key of a numbered table is of its incarnation
pub key_of-id : (v : RuleView) (number : ℕ) (id : TableId) (addr : Addr) → key_of v number ≡ Some (id, addr) → slice_get v.version.tables number ≡ Some id
key_of-id v number id addr is = by (slice_get v.version.tables number) refl
  where
    keyed : (table : TableState) (o : Option Addr) → option_map {U = TableId × Addr} (λ key. (table.id, key)) o ≡ Some (id, addr) → table.id ≡ id
    keyed table None e = nothing e
    keyed table (Some key) e = let same : (table.id, key) ≡ (id, addr) = some_same e in ap (λ (pair : TableId × Addr). pair.0) same

    at : (own : TableId) (o : Option TableState) → table_at v.tables own ≡ o → option_and_then (key_in_table v) o ≡ Some (id, addr) → own ≡ id
    at own None e there = nothing there
    at own (Some table) e there =
        sym (table_found v.tables own table e) ∙ keyed table (tracked_key (trackers v.tracks table.id) table.table.kind table.table.size table.entries v.source) there

    by : (o : Option TableId) → slice_get v.version.tables number ≡ o → slice_get v.version.tables number ≡ Some id
    by None e = nothing (rw e at is)
    by (Some own) e = e ∙ ap Some (at own (table_at v.tables own) refl (rw e at is))

-- the backend that is chosen is on the side
pub backend_for-side : (part : Part) (side : Bool) (v : RuleView) (passes : Criterion → Bool) (number : ℕ) →
    choices_pass (keeps_backend part side v.version.plan) passes v.frontend.acls v.frontend.choices ≡ true →
    option_map_or (keeps_backend part side v.version.plan) v.frontend.default true ≡ true → backend_for (worth v) v.frontend ≡ Some number →
    keeps_backend part side v.version.plan number ≡ true
backend_for-side part side v passes number choices default' is = by (find (λ choice. applies v.frontend.acls (worth v) choice.when) v.frontend.choices) refl
  where
    among : (list : List Choice) (choice : Choice) → choices_pass (keeps_backend part side v.version.plan) passes v.frontend.acls list ≡ true →
        find (λ choice. applies v.frontend.acls (worth v) choice.when) list ≡ Some choice → keeps_backend part side v.version.plan choice.backend ≡ true
    among [] choice kept e = nothing e
    among (c ∷ list) choice kept e =
        let parts = both (choice_passes (keeps_backend part side v.version.plan) passes v.frontend.acls c) (choices_pass (keeps_backend part side v.version.plan) passes v.frontend.acls list) kept in
        let own = both (when_passes passes v.frontend.acls c.when) (keeps_backend part side v.version.plan c.backend) parts.0 in
        on (applies v.frontend.acls (worth v) c.when) refl own.1 (among list choice parts.1)
      where
        on : (b : Bool) → applies v.frontend.acls (worth v) c.when ≡ b → keeps_backend part side v.version.plan c.backend ≡ true →
            (find (λ choice. applies v.frontend.acls (worth v) choice.when) list ≡ Some choice → keeps_backend part side v.version.plan choice.backend ≡ true) →
            keeps_backend part side v.version.plan choice.backend ≡ true
        on true f own rest = let same : c ≡ choice = some_same (rw f at e) in ap (λ (x : Choice). keeps_backend part side v.version.plan x.backend) (sym same) ∙ own
        on false f own rest = rest (rw f at e)

    default-side : (o : Option ℕ) → option_map_or (keeps_backend part side v.version.plan) o true ≡ true → o ≡ Some number → keeps_backend part side v.version.plan number ≡ true
    default-side None kept e = nothing e
    default-side (Some n) kept e = ap (keeps_backend part side v.version.plan) (sym (some_same e)) ∙ kept

    by : (o : Option Choice) → find (λ choice. applies v.frontend.acls (worth v) choice.when) v.frontend.choices ≡ o → keeps_backend part side v.version.plan number ≡ true
    by None e = default-side v.frontend.default default' (rw e at is)
    by (Some choice) e =
        let same : choice.backend ≡ number = some_same (rw e at is) in
        ap (keeps_backend part side v.version.plan) (sym same) ∙ among v.frontend.choices choice choices e

-- Picking a server, in steps.

abbrev given_of : Backend → Option Place → Result NumberedServer Cause
given_of backend turn = or_fault (NoServer backend.line) turn >>= λ turn. or_fault (NoServer backend.line) (numbered_server backend turn.server)

abbrev picked_of : (ServerIdentity → ℕ) → (Backend → Server → Bool) → List (Option Place) → Addr → ℕ → Backend → Result NumberedServer Cause
picked_of served barred cursors source number backend = given_of backend (pick_in served barred backend (cursor_at cursors number) source)

abbrev server_by : ℕ → List Backend → (ℕ → Backend → Result NumberedServer Cause) → Option ℕ → Result NumberedServer Cause
server_by line backends pick number = or_fault (NoBackend line) number >>= λ number. or_fault (NoBackend line) (slice_get backends number) >>= λ backend. pick number backend

-- a pick of a backend of which the servers are counted alike, and barred alike
module _ (served served' : ServerIdentity → ℕ) (barred barred' : Backend → Server → Bool) (backend : Backend) (counts : (server : Server) → served (identity_in backend server) ≡ served' (identity_in backend server))
    (bars : (server : Server) → barred backend server ≡ barred' backend server) where
  loads-alike : loads_of served barred backend ≡ loads_of served' barred' backend
  loads-alike = go backend.servers
    where
      load : Server → Bool → ℕ → ServerLoad
      load server b n = record { weight = weight_by backend.method b server; has_room = not b && has_room server.limit n; connections = n }

      one : (server : Server) → load_of served barred backend server ≡ load_of served' barred' backend server
      one server = ap (load server (barred backend server)) (counts server) ∙ ap (λ b. load server b (served' (identity_in backend server))) (bars server)

      go : (servers : List Server) → map (load_of served barred backend) servers ≡ map (load_of served' barred' backend) servers
      go [] = refl
      go (server ∷ servers) = cc (one server, go servers)

  pub pick-alike : (as' bs : List (Option Place)) (number : ℕ) (source : Addr) → slice_get as' number ≡ slice_get bs number →
      pick_in served barred backend (cursor_at as' number) source ≡ pick_in served' barred' backend (cursor_at bs number) source
  pick-alike as' bs number source same =
      ap (λ loads. picked loads backend.method (cursor_at as' number) source) loads-alike
      ∙ ap (λ o. picked (loads_of served' barred' backend) backend.method (option_and_then (λ cursor. cursor) o) source) same

-- Two states, and a version in each, that show the part's connection the same.
pub record SeatsAlike (part : Part) (s t : Plain) (v w : Version) (id : ConnId) : Type 0 where
  pub plan : v.plan ≡ w.plan
  pub ids : v.tables ≡ w.tables
  pub own : tracks_at s.frontends id ≡ tracks_at t.frontends id
  pub inside : AllByRecursion (λ track. is_own_id part v track.table ≡ true) (tracks_at s.frontends id)
  pub tables : (table : TableId) → is_own_id part v table ≡ true → table_at s.tables table ≡ table_at t.tables table
  pub tracks : (table : TableId) → is_own_id part v table ≡ true → (key : Addr) → trackers (open_tracks s.frontends) table key ≡ trackers (open_tracks t.frontends) table key
  pub connections : open_in s.frontends id.frontend ≡ open_in t.frontends id.frontend
  pub named : (name : List ℕ) → part.frontend_names name ≡ true → open_named s.frontends name ≡ open_named t.frontends name
  pub offered : (name : List ℕ) → part.backend_names name ≡ true → offered_to s.frontends name ≡ offered_to t.frontends name
  pub served : (identity : ServerIdentity) → part.backend_names identity.backend ≡ true → served_by s.frontends identity ≡ served_by t.frontends identity
  pub down : (identity : ServerIdentity) → part.backend_names identity.backend ≡ true → list_any (same_server identity) s.down ≡ list_any (same_server identity) t.down
  pub cursors : (n : ℕ) → owns_backend_at part v.plan n ≡ true → slice_get v.cursors n ≡ slice_get w.cursors n

module _ (part : Part) (s t : Plain) (v w : Version) (f : Frontend) (id : ConnId) (alike : SeatsAlike part s t v w id) (source : Addr) where
  abbrev pub left : List Track → RuleView
  left = view_of (candidate_of s id v f) source

  abbrev pub right : List Track → RuleView
  right = view_of (candidate_of t id w f) source

  module _ (made : List Track) (own_made : AllByRecursion (λ track. is_own_id part v track.table ≡ true) made) where
    current-same : (table : TableState) → is_own_id part v table.id ≡ true → current_of (left made) table ≡ current_of (right made) table
    current-same table own = fun_ext (λ key.
        trackers-append (open_tracks s.frontends) made table.id key ∙ ap (λ n. n + trackers made table.id key) (alike.tracks table.id own key)
        ∙ sym (trackers-append (open_tracks t.frontends) made table.id key))

    pub own_track-same : (counter : ℕ) → own_track (left made) counter ≡ own_track (right made) counter
    own_track-same counter = ap (λ earlier. find (λ (track : Track). track.counter == counter) (earlier ++ made)) alike.own

    own_track-own : (counter : ℕ) (track : Track) → own_track (left made) counter ≡ Some track → is_own_id part v track.table ≡ true
    own_track-own counter track there =
        (all-found (λ (track : Track). is_own_id part v track.table ≡ true) (λ track. track.counter == counter) (tracks_at s.frontends id ++ made) track
        (all-append (λ (track : Track). is_own_id part v track.table ≡ true) (tracks_at s.frontends id) made alike.inside own_made) there).0

    tracked-same : (stored : Stores → Bool) (count count' : TableState → Addr → ℕ) → ((table : TableState) → is_own_id part v table.id ≡ true → count table ≡ count' table) → (counter : ℕ) →
        tracked_value (left made) stored count (own_track (left made) counter) ≡ tracked_value (right made) stored count' (own_track (right made) counter)
    tracked-same stored count count' same counter =
        by (own_track (left made) counter) refl ∙ ap (tracked_value (right made) stored count') (own_track-same counter)
      where
        by : (o : Option Track) → own_track (left made) counter ≡ o → tracked_value (left made) stored count (own_track (left made) counter) ≡ tracked_value (right made) stored count' (own_track (left made) counter)
        by None e = rw e refl
        by (Some track) e =
            let own : is_own_id part v track.table ≡ true = own_track-own counter track e in
            rw e (at (table_at s.tables track.table) refl own
            ∙ ap (λ (o : Option TableState). option_map_or (λ table. if stored table.table.stores then values.Number (counted count' track.key table) else values.Absent) o values.Absent) (alike.tables track.table own))
          where
            at : (o : Option TableState) → table_at s.tables track.table ≡ o → is_own_id part v track.table ≡ true →
                option_map_or (λ (table : TableState). if stored table.table.stores then values.Number (counted count track.key table) else values.Absent) (table_at s.tables track.table) values.Absent
                ≡ option_map_or (λ (table : TableState). if stored table.table.stores then values.Number (counted count' track.key table) else values.Absent) (table_at s.tables track.table) values.Absent
            at None there own = rw there refl
            at (Some table) there own =
                let is : table.id ≡ track.table = table_found s.tables track.table table there in
                rw there (ap (λ (c : Addr → ℕ). if stored table.table.stores then values.Number (option_map_or c (key_in table.table.kind track.key) 0) else values.Absent) (same table (ap (is_own_id part v) is ∙ own)))

    numbered-same : (number : ℕ) → owns_table_at part v.plan number ≡ true → numbered_table (left made) number ≡ numbered_table (right made) number
    numbered-same number owns = by (slice_get v.tables number) refl ∙ ap (λ ids. option_and_then (table_at t.tables) (slice_get ids number)) alike.ids
      where
        by : (o : Option TableId) → slice_get v.tables number ≡ o → option_and_then (table_at s.tables) (slice_get v.tables number) ≡ option_and_then (table_at t.tables) (slice_get v.tables number)
        by None there = rw there refl
        by (Some own) there = rw there (alike.tables own (own-at part v number own owns there))

    numbered-own : (number : ℕ) (table : TableState) → owns_table_at part v.plan number ≡ true → numbered_table (left made) number ≡ Some table → is_own_id part v table.id ≡ true
    numbered-own number table owns there = by (slice_get v.tables number) refl
      where
        by : (o : Option TableId) → slice_get v.tables number ≡ o → is_own_id part v table.id ≡ true
        by None e = nothing (rw e at there)
        by (Some own) e =
            let found : table_at s.tables own ≡ Some table = rw e at there in
            ap (is_own_id part v) (table_found s.tables own table found) ∙ own-at part v number own owns e

    source-same : (count count' : TableState → Addr → ℕ) → ((table : TableState) → is_own_id part v table.id ≡ true → count table ≡ count' table) → (name : Option (List ℕ)) →
        keeps_meant part true v.plan (table_number v.plan.tables f.name name) ≡ true →
        source_value (left made) count (named_table (left made) name) ≡ source_value (right made) count' (named_table (right made) name)
    source-same count count' same name keeps =
        meant (table_number v.plan.tables f.name name) refl keeps ∙ ap (λ (plan : Plan). source_value (right made) count' (option_and_then (numbered_table (right made)) (table_number plan.tables f.name name))) alike.plan
      where
        at : (o : Option TableState) (number : ℕ) → owns_table_at part v.plan number ≡ true → numbered_table (left made) number ≡ o →
            source_value (left made) count (numbered_table (left made) number) ≡ source_value (right made) count' (numbered_table (left made) number)
        at None number owns there = rw there refl
        at (Some table) number owns there =
            rw there (ap (λ (c : Addr → ℕ). values.Number (option_map_or c (key_in table.table.kind source) 0)) (same table (numbered-own number table owns there)))

        meant : (o : Option ℕ) → table_number v.plan.tables f.name name ≡ o → keeps_meant part true v.plan o ≡ true →
            source_value (left made) count (option_and_then (numbered_table (left made)) (table_number v.plan.tables f.name name))
            ≡ source_value (right made) count' (option_and_then (numbered_table (right made)) (table_number v.plan.tables f.name name))
        meant None e kept = rw e refl
        meant (Some number) e kept =
            rw e (at (numbered_table (left made) number) number kept refl ∙ ap (source_value (right made) count') (numbered-same number kept))

    pub worth-same : (criterion : Criterion) → keeps_criterion part true v.plan f.name criterion ≡ true → worth (left made) criterion ≡ worth (right made) criterion
    worth-same criteria.Source keeps = refl
    worth-same (criteria.TrackedConnections counter) keeps = tracked-same (λ stores. stores.cur) (current_of (left made)) (current_of (right made)) current-same counter
    worth-same (criteria.TrackedTotal counter) keeps = tracked-same (λ stores. stores.cnt) (total_of (left made)) (total_of (right made)) (λ table own. refl) counter
    worth-same (criteria.SourceConnections name) keeps = source-same (current_of (left made)) (current_of (right made)) current-same name keeps
    worth-same (criteria.SourceTotal name) keeps = source-same (total_of (left made)) (total_of (right made)) (λ table own. refl) name keeps
    worth-same (criteria.FrontendConnections None) keeps = ap (λ n. values.Number n) alike.connections
    worth-same (criteria.FrontendConnections (Some name)) keeps = ap (λ n. values.Number n) (alike.named name keeps)
    worth-same (criteria.BackendConnections name) keeps = ap (λ n. values.Number n) (alike.offered name keeps)

    pub key-same : (number : ℕ) → owns_table_at part v.plan number ≡ true → key_of (left made) number ≡ key_of (right made) number
    key-same number owns = at (numbered_table (left made) number) refl ∙ ap (option_and_then (key_in_table (right made))) (numbered-same number owns)
      where
        at : (o : Option TableState) → numbered_table (left made) number ≡ o → option_and_then (key_in_table (left made)) (numbered_table (left made) number) ≡ option_and_then (key_in_table (right made)) (numbered_table (left made) number)
        at None there = rw there refl
        at (Some table) there =
            rw there (ap (λ (c : Addr → ℕ). option_map (λ key. (table.id, key)) (tracked_key c table.table.kind table.table.size table.entries source))
            (fun_ext (λ key. alike.tracks table.id (numbered-own number table owns there) key)))

    -- Choosing a server.

    backend-same : choices_pass (keeps_backend part true v.plan) (keeps_criterion part true v.plan f.name) f.acls f.choices ≡ true → backend_for (worth (left made)) f ≡ backend_for (worth (right made)) f
    backend-same kept =
        ap (λ (o : Option Choice). option_or (option_map (λ choice. choice.backend) o) f.default)
        (find-kept (choice_passes (keeps_backend part true v.plan) (keeps_criterion part true v.plan f.name) f.acls) (λ choice. applies f.acls (worth (left made)) choice.when)
        (λ choice. applies f.acls (worth (right made)) choice.when) f.choices kept
        (λ choice passes. applies-kept (keeps_criterion part true v.plan f.name) f.acls (worth (left made)) (worth (right made)) worth-same choice.when
        (both (when_passes (keeps_criterion part true v.plan f.name) f.acls choice.when) (keeps_backend part true v.plan choice.backend) passes).0))

    pick-same : (number : ℕ) (backend : Backend) → slice_get v.plan.backends number ≡ Some backend → owns_backend_at part v.plan number ≡ true →
        pick_in (served_by s.frontends) (is_down s.down) backend (cursor_at v.cursors number) source ≡ pick_in (served_by t.frontends) (is_down t.down) backend (cursor_at w.cursors number) source
    pick-same number backend there owns =
        let named : part.backend_names backend.name ≡ true = rw there at owns in
        pick-alike (served_by s.frontends) (served_by t.frontends) (is_down s.down) (is_down t.down) backend (λ server. alike.served (identity_in backend server) named)
        (λ server. ap (λ b. is_some server.check && b) (alike.down (identity_in backend server) named)) v.cursors w.cursors number source (alike.cursors number owns)

    pub server-same : choices_pass (keeps_backend part true v.plan) (keeps_criterion part true v.plan f.name) f.acls f.choices ≡ true → option_map_or (keeps_backend part true v.plan) f.default true ≡ true →
        server_for (left made) ≡ server_for (right made)
    server-same choices default' =
        by (backend_for (worth (left made)) f) refl ∙ ap (server_by f.line w.plan.backends (picked_of (served_by t.frontends) (is_down t.down) w.cursors source)) (backend-same choices)
      where
        at : (number : ℕ) → owns_backend_at part v.plan number ≡ true → (o : Option Backend) → slice_get v.plan.backends number ≡ o →
            server_by f.line v.plan.backends (picked_of (served_by s.frontends) (is_down s.down) v.cursors source) (Some number) ≡ server_by f.line v.plan.backends (picked_of (served_by t.frontends) (is_down t.down) w.cursors source) (Some number)
        at number owns None e = rw e refl
        at number owns (Some backend) e = rw e (ap (given_of backend) (pick-same number backend e owns))

        by : (o : Option ℕ) → backend_for (worth (left made)) f ≡ o →
            server_by f.line v.plan.backends (picked_of (served_by s.frontends) (is_down s.down) v.cursors source) o ≡ server_by f.line w.plan.backends (picked_of (served_by t.frontends) (is_down t.down) w.cursors source) o
        by None e = refl
        by (Some number) e =
            let owns : owns_backend_at part v.plan number ≡ true = backend_for-side part true (left made) (keeps_criterion part true v.plan f.name) number choices default' e in
            at number owns (slice_get v.plan.backends number) refl
            ∙ ap (λ (plan : Plan). server_by f.line plan.backends (picked_of (served_by t.frontends) (is_down t.down) w.cursors source) (Some number)) alike.plan
