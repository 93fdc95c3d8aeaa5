-- Counts of the open connections.
use Rattle.std.specs.Prelude.{◌≡◌, ◌≤◌, ℕ, Bool, false, List, [], ◌∷◌, length, map, filter, slice_get, Option, Some, None, ◌+◌, ◌==◌, if◌then◌else◌}
use Rattle.std.specs.Str.{bytes_eq}
use Rattle.std.specs.Option.{option_and_then, option_map, option_map_or}
use Rattle.proxy_types.specs.declared.server.ServerIdentity.{ServerIdentity}
use Rattle.proxy_types.specs.ServerIdentity.{same_server}
use Rattle.plan_types.specs.declared.plan.Backend.{Backend}
use Rattle.plan_types.specs.declared.plan.Server.{Server}
use Rattle.conn_model.specs.declared.ask.Ask.{Ask}
use Rattle.conn_model.specs.declared.ask.Ask.TheVariants as asks
use Rattle.conn_model.specs.declared.ask.Counts.{Counts}
use Rattle.conn_model.specs.declared.plain.Phase.{Phase}
use Rattle.conn_model.specs.declared.plain.Phase.TheVariants.{Waiting, Offered, Up}
use Rattle.conn_model.specs.declared.plain.Row.{Row}
use Rattle.conn_model.specs.declared.plain.FrontendRows.{FrontendRows}
use Rattle.conn_model.specs.declared.plain.TableState.{TableState}
use Rattle.conn_model.specs.declared.plain.Version.{Version}
use Rattle.conn_model.specs.declared.plain.Plain.{Plain}
use Rattle.conn_model.specs.Words.{newest}
use Rattle.conn_model.specs.Tables.{entry_counts, open_tracks, table_at}
use Rattle.conn_model.specs.Servers.{identity_in}

-- how many connections of the frontend of that number are open
abbrev pub open_in : List FrontendRows → ℕ → ℕ
open_in frontends number = option_map_or (λ own. length own.rows) (slice_get frontends number) 0

abbrev pub total : {X : Type 0} → (X → ℕ) → List X → ℕ
total worth [] = 0
total worth (x ∷ xs) = worth x + total worth xs

-- how many connections are open
abbrev pub open_connections : Plain → ℕ
open_connections p = total (λ own. length own.rows) p.frontends

-- of a frontend, if it has the name
abbrev pub open_if : List ℕ → FrontendRows → ℕ
open_if name own = if bytes_eq own.name name then length own.rows else 0

-- how many connections of the frontend of that name are open
abbrev pub open_named : List FrontendRows → List ℕ → ℕ
open_named frontends name = total (open_if name) frontends

-- the server that a connection was offered
abbrev pub server_of : Phase → Option ServerIdentity
server_of (Waiting rest) = None
server_of (Offered assignment) = Some assignment.server
server_of (Up assignment) = Some assignment.server

-- the connection was offered a server of the backend of that name
abbrev pub is_offered_to : List ℕ → Phase → Bool
is_offered_to name phase = option_map_or (λ server. bytes_eq server.backend name) (server_of phase) false

abbrev pub offered_in : List ℕ → FrontendRows → ℕ
offered_in name own = length (filter (λ row. is_offered_to name row.phase) own.rows)

-- how many open connections were offered a server of the backend of that name
abbrev pub offered_to : List FrontendRows → List ℕ → ℕ
offered_to frontends name = total (offered_in name) frontends

-- the connection was offered that server
abbrev pub is_served_by : ServerIdentity → Phase → Bool
is_served_by identity phase = option_map_or (same_server identity) (server_of phase) false

abbrev pub served_in : ServerIdentity → FrontendRows → ℕ
served_in identity own = length (filter (λ row. is_served_by identity row.phase) own.rows)

-- how many open connections were offered that server
abbrev pub served_by : List FrontendRows → ServerIdentity → ℕ
served_by frontends identity = total (served_in identity) frontends

-- the row of that serial changed, and the others as they are
abbrev pub change_row : ℕ → (Row → Row) → List Row → List Row
change_row serial change rows = map (λ row. if row.serial == serial then change row else row) rows

-- the counts of what is not tracked
abbrev pub count_of : ℕ → Counts
count_of current = record { cur = current; cnt = 0 }

-- the backend of that number in the newest version
abbrev pub newest_backend : List Version → ℕ → Option Backend
newest_backend versions number = option_and_then (λ version. slice_get version.plan.backends number) (newest versions)

-- how many open connections were offered a server of a backend
abbrev pub count_of_server : List FrontendRows → Backend → Server → Counts
count_of_server frontends backend server = count_of (served_by frontends (identity_in backend server))

-- the table of that number in the newest version
abbrev pub newest_table : List Version → List TableState → ℕ → Option TableState
newest_table versions tables number =
    option_and_then (table_at tables) (option_and_then (λ version. slice_get version.tables number) (newest versions))

-- the counts that are asked for, if there is such a thing
abbrev pub counts_in : Plain → Ask → Option Counts
counts_in p (asks.Frontend number) = option_map (λ own. count_of (length own.rows)) (slice_get p.frontends number)
counts_in p (asks.Backend number) = option_map (λ backend. count_of (offered_to p.frontends backend.name)) (newest_backend p.versions number)
counts_in p (asks.Server number n) =
    option_and_then (λ backend. option_map (count_of_server p.frontends backend) (slice_get backend.servers n)) (newest_backend p.versions number)
counts_in p (asks.Entry number addr) = option_map (entry_counts (open_tracks p.frontends) addr) (newest_table p.versions p.tables number)

-- So many entries of the table are in memory: those that there are, and such as expired and whose place no other took yet.
pub record HasInMemory (table : TableState) (count : ℕ) : Type 0 where
  pub least : length table.entries ≤ count
  pub most : count ≤ table.table.size
  -- where none expires, just those that there are
  pub exact : table.table.expire ≡ 0 → count ≡ length table.entries

-- if there is such a table
abbrev pub AreInMemory : Option TableState → Option ℕ → Type 0
AreInMemory None count = count ≡ None
AreInMemory (Some table) count = (n : ℕ) × (count ≡ Some n) × HasInMemory table n
