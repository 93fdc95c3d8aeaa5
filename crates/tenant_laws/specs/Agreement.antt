-- When two states of a balancer look the same to a part.
use Rattle.std.specs.Prelude.{ℕ, Bool, true, false, List, map, max, find, slice_get, Some, IfSome, ◌⊎◌, ◌≡◌, ◌&&◌}
use Rattle.std.specs.List.{list_any, AllByRecursion}
use Rattle.std.specs.Option.{option_map, option_map_or}
use Rattle.proxy_types.specs.declared.server.ServerIdentity.{ServerIdentity}
use Rattle.proxy_types.specs.ServerIdentity.{same_server}
use Rattle.plan_types.specs.Lines.{has_line, LinesDiffer}
use Rattle.plan_types.specs.declared.plan.Backend.{Backend}
use Rattle.plan_types.specs.declared.plan.Table.{Table}
use Rattle.plan_types.specs.declared.track.TableId.{TableId}
use Rattle.conn_model.specs.declared.plain.FrontendRows.{FrontendRows}
use Rattle.conn_model.specs.declared.plain.Phase.{Phase}
use Rattle.conn_model.specs.declared.plain.Plain.{Plain}
use Rattle.conn_model.specs.declared.plain.Row.{Row}
use Rattle.conn_model.specs.declared.plain.TableState.{TableState}
use Rattle.conn_model.specs.declared.plain.Version.{Version}
use Rattle.conn_model.specs.Answer.{at_moment, offer_in, version_at}
use Rattle.conn_model.specs.Counts.{server_of}
use Rattle.conn_model.specs.History.{has_version, newest_number, IsWell}
use Rattle.conn_model.specs.Tables.{same_id, table_at, written_tables}
use Rattle.tenant_laws.specs.Parts.{keeps_apart, owns_backend_at, owns_table, Part}

-- Incarnations of the part's tables.

-- by a version
abbrev pub is_own_id : Part → Version → TableId → Bool
is_own_id part version id = list_any (λ (pair : Table × TableId). owns_table part pair.0 && same_id pair.1 id) (written_tables (Some version))

-- among tables that are kept
abbrev pub owns_id : Part → List TableState → TableId → Bool
owns_id part tables id = option_map_or (λ table. owns_table part table.table) (table_at tables id) false

-- The part sees no difference between a version in one state, with its tables, and in another: the same plan and
-- incarnations; of what is the part's, the same cursors, and tables with the same entries.
pub record IsAlike (part : Part) (ps qs : List TableState) (v w : Version) : Type 0 where
  pub number : v.number ≡ w.number
  pub plan : v.plan ≡ w.plan
  pub tables : v.tables ≡ w.tables
  pub cursors : (n : ℕ) → owns_backend_at part v.plan n ≡ true → slice_get v.cursors n ≡ slice_get w.cursors n
  pub entries : (id : TableId) → is_own_id part v id ≡ true → table_at ps id ≡ table_at qs id

-- the version of that number judges connections of the part: it is the newest, or one that is open is of it
abbrev pub IsMeant : Part → Plain → ℕ → Type 0
IsMeant part p number =
    (number ≡ newest_number p)
    ⊎ ((n : ℕ) × (own : FrontendRows) × (part.frontends n ≡ true) × (slice_get p.frontends n ≡ Some own) × (has_version number own ≡ true))

-- a connection was offered a server of a backend of the part
abbrev pub is_offered_own : Part → Row → Bool
is_offered_own part row = option_map_or (λ server. part.backend_names server.backend) (server_of row.phase) false

-- a connection of the others neither tracks nor was offered what is the part's
pub record IsOutside (part : Part) (tables : List TableState) (row : Row) : Type 0 where
  pub tracks : AllByRecursion (λ track. owns_id part tables track.table ≡ false) row.tracks
  pub offered : is_offered_own part row ≡ false

-- what a connection of the part tracks is in the part's tables, by the version that judges it, and where it was offered a
-- server, that is one of a backend of the part
pub record IsInside (part : Part) (versions : List Version) (row : Row) : Type 0 where
  pub tracks : AllByRecursion (λ track. option_map_or (λ version. is_own_id part version track.table) (version_at versions row.version) false ≡ true) row.tracks
  pub offered : option_map_or (λ server. part.backend_names server.backend) (server_of row.phase) true ≡ true

-- the part names its own frontends, and no others
abbrev pub IsNamed : Part → Plain → Type 0
IsNamed part p = (n : ℕ) → IfSome (slice_get p.frontends n) (λ own. part.frontends n ≡ part.frontend_names own.name)

-- The part is apart in a state: each version that is kept keeps it apart, and so do the open connections.
pub record IsApart (part : Part) (p : Plain) : Type 0 where
  pub plans : (number : ℕ) (version : Version) → version_at p.versions number ≡ Some version → keeps_apart part version.plan ≡ true
  pub named : IsNamed part p
  pub outside : (n : ℕ) (own : FrontendRows) → part.frontends n ≡ false → slice_get p.frontends n ≡ Some own → AllByRecursion (IsOutside part p.tables) own.rows
  pub inside : (n : ℕ) (own : FrontendRows) → part.frontends n ≡ true → slice_get p.frontends n ≡ Some own → AllByRecursion (IsInside part p.versions) own.rows

-- Two states look the same to a part, which is apart in both.
pub record LookAlike (part : Part) (p q : Plain) : Type 0 where
  pub listeners : p.listeners ≡ q.listeners
  pub names : map (λ own. own.name) p.frontends ≡ map (λ own. own.name) q.frontends
  pub number : newest_number p ≡ newest_number q
  -- the serials and the open connections of its frontends
  pub frontends : (n : ℕ) → part.frontends n ≡ true → slice_get p.frontends n ≡ slice_get q.frontends n
  -- the versions that judge its connections
  pub versions : (number : ℕ) → IsMeant part p number → (v w : Version) → version_at p.versions number ≡ Some v → version_at q.versions number ≡ Some w →
      IsAlike part p.tables q.tables v w
  -- which servers of its backends are down
  pub down : (server : ServerIdentity) → part.backend_names server.backend ≡ true → list_any (same_server server) p.down ≡ list_any (same_server server) q.down
  pub left : IsApart part p
  pub right : IsApart part q

-- Two states agree on a part: at the later of their two moments they look the same to it.
abbrev pub Agree : Part → Plain → Plain → Type 0
Agree part p q = LookAlike part (at_moment (max p.clock q.clock) p) (at_moment (max p.clock q.clock) q)

-- a table of a version is kept as it was written
abbrev pub IsWritten : List TableState → Table × TableId → Type 0
IsWritten tables pair = option_map (λ state. state.table) (table_at tables pair.1) ≡ Some pair.0

-- a connection that awaits the server that it was offered: that is one of the backend that has its line, by the version
-- of that number
abbrev pub IsOfLine : List Version → ℕ → Phase → Type 0
IsOfLine versions number phase = IfSome (offer_in phase) (λ given. (version : Version) (backend : Backend) →
    version_at versions number ≡ Some version → find (has_line given.line) version.plan.backends ≡ Some backend → given.server.backend ≡ backend.name)

-- What holds in each state that an opening or a legal history can leave: besides, a table of a version is kept as it was
-- written, no line is a server's in two backends, and what a connection was offered is of the backend that has its line,
-- by the version that judges the connection.
pub record IsSound (p : Plain) : Type 0 where
  pub well : IsWell p
  pub written : (number : ℕ) (version : Version) → version_at p.versions number ≡ Some version → AllByRecursion (IsWritten p.tables) (written_tables (Some version))
  pub lines : (number : ℕ) (version : Version) → version_at p.versions number ≡ Some version → LinesDiffer version.plan
  pub offers : (n : ℕ) (own : FrontendRows) → slice_get p.frontends n ≡ Some own → AllByRecursion (λ row. IsOfLine p.versions row.version row.phase) own.rows
