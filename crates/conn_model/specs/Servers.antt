-- The servers of a backend, as a pick sees them.
use Rattle.std.specs.Prelude.{ℕ, Bool, true, false, not, is_some, List, map, slice_get, slice_set, position, Option, Some, ◌≡◌, ◌⊎◌, ◌<◌, ◌==◌, ◌||◌, ◌&&◌, nat_lt, if◌then◌else◌}
use Rattle.std.specs.List.{list_any}
use Rattle.std.specs.Option.{option_and_then, option_map_or}
use Rattle.addr_core.specs.declared.addr.Addr.{Addr}
use Rattle.addr_core.specs.declared.addr.Endpoint.{Endpoint}
use Rattle.proxy_types.specs.declared.balance.Method.{Method}
use Rattle.proxy_types.specs.declared.balance.Method.TheVariants.{RoundRobin, LeastConn, Source}
use Rattle.proxy_types.specs.declared.balance.Place.{Place}
use Rattle.proxy_types.specs.declared.server.ServerIdentity.{ServerIdentity}
use Rattle.proxy_types.specs.ServerIdentity.{same_server}
use Rattle.balance_core.specs.declared.load.ServerLoad.{ServerLoad}
use Rattle.balance_core.specs.Picks.{picked, used_after}
use Rattle.plan_types.specs.declared.plan.Backend.{Backend}
use Rattle.plan_types.specs.declared.plan.Plan.{Plan}
use Rattle.plan_types.specs.declared.plan.Server.{Server}
use Rattle.plan_types.specs.Lines.{has_line}

-- what the counts of a server go by
abbrev pub identity_in : Backend → Server → ServerIdentity
identity_in backend server = record { backend = backend.name; name = server.name; to = server.to }

-- a server that is disabled has no weight
abbrev pub weight_of : Server → ℕ
weight_of server = if server.disabled then 0 else server.weight

-- a limit of 0 is none
abbrev pub has_room : ℕ → ℕ → Bool
has_room limit connections = (limit == 0) || nat_lt connections limit

-- the server was reported down, and its line says that it is checked
abbrev pub is_down : List ServerIdentity → Backend → Server → Bool
is_down down backend server = is_some server.check && list_any (same_server (identity_in backend server)) down

-- A pick may be barred from servers.

-- By source the others share the addresses. By the other methods each server keeps its turns, and one that is barred is
-- passed over as a full one is.
abbrev pub weight_by : Method → Bool → Server → ℕ
weight_by Source true server = 0
weight_by Source false server = weight_of server
weight_by RoundRobin barred server = weight_of server
weight_by LeastConn barred server = weight_of server

-- the load of a server, where so many connections are open to each, and those are barred
abbrev pub load_of : (ServerIdentity → ℕ) → (Backend → Server → Bool) → Backend → Server → ServerLoad
load_of served barred backend server = record {
  weight = weight_by backend.method (barred backend server) server;
  has_room = not (barred backend server) && has_room server.limit (served (identity_in backend server));
  connections = served (identity_in backend server);
}

abbrev pub loads_of : (ServerIdentity → ℕ) → (Backend → Server → Bool) → Backend → List ServerLoad
loads_of served barred backend = map (load_of served barred backend) backend.servers

-- What was last used of each backend of a version.

-- of the backend of that number
abbrev pub cursor_at : List (Option Place) → ℕ → Option Place
cursor_at cursors number = option_and_then (λ cursor. cursor) (slice_get cursors number)

-- the turn that is picked for a source, where that was last used
abbrev pub pick_in : (ServerIdentity → ℕ) → (Backend → Server → Bool) → Backend → Option Place → Addr → Option Place
pick_in served barred backend last source = picked (loads_of served barred backend) backend.method last source

-- what was last used of a backend, once that server of it was offered
abbrev pub cursor_after : Backend → ℕ → Option Place → Option Place
cursor_after backend server last = used_after (map weight_of backend.servers) backend.method last server

-- the cursors once that server of the backend of that number was offered
abbrev pub with_cursor : List Backend → ℕ → ℕ → List (Option Place) → List (Option Place)
with_cursor backends number server cursors =
    option_map_or (λ backend. slice_set cursors number (cursor_after backend server (cursor_at cursors number))) (slice_get backends number) cursors

-- and once the server of a line, which has that number in its backend, was offered
abbrev pub cursors_after : Plan → ℕ → ℕ → List (Option Place) → List (Option Place)
cursors_after plan line server cursors =
    option_map_or (λ number. with_cursor plan.backends number server cursors) (position (has_line line) plan.backends) cursors

-- the plan has a server of that line, number in its backend and address; it is usable and not barred, and has room
-- where so many connections are open to each
pub record MayOffer (served : ServerIdentity → ℕ) (barred : Backend → Server → Bool) (plan : Plan) (line number : ℕ) (to : Endpoint) : Type 0 where
  pub place : ℕ
  pub backend : Backend
  pub server : Server
  pub among : slice_get plan.backends place ≡ Some backend
  pub found : slice_get backend.servers number ≡ Some server
  pub line_is : server.line ≡ line
  pub to_is : server.to ≡ to
  pub enabled : server.disabled ≡ false
  pub weighs : 0 < server.weight
  pub stands : barred backend server ≡ false
  pub room : (server.limit ≡ 0) ⊎ (served (identity_in backend server) < server.limit)
