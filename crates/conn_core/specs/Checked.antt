-- A server that is checked, and its numbers.
use Rattle.std.specs.Prelude.{ℕ, Bool, List, Option, option_and_then, option_map, position, slice_get, is_some, ◌&&◌}
use Rattle.std.specs.Str.{bytes_eq}
use Rattle.proxy_types.specs.declared.server.ServerIdentity.{ServerIdentity}
use Rattle.proxy_types.specs.ServerIdentity.{same_server}
use Rattle.plan_types.specs.declared.plan.Backend.{Backend}
use Rattle.plan_types.specs.declared.plan.Plan.{Plan}
use Rattle.plan_types.specs.declared.plan.Server.{Server}
use Rattle.conn_model.specs.declared.plain.Version.{Version}
use Rattle.conn_model.specs.Servers.{identity_in}
use Rattle.conn_model.specs.Words.{newest}
use Rattle.conn_core.specs.declared.checked.CheckedServer.{CheckedServer}
use Rattle.conn_core.specs.declared.checked.ServerNumbers.{ServerNumbers}

abbrev pub checked_in : CheckedServer → Backend × Server
checked_in checked = (checked.backend.now, checked.server.now)

-- what it is known by, through all versions
abbrev pub known_by : CheckedServer → ServerIdentity
known_by checked = identity_in checked.backend.now checked.server.now

-- a server of a backend is checked, and is known by that
abbrev pub is_checked_as : ServerIdentity → Backend → Server → Bool
is_checked_as known backend server = is_some server.check && same_server known (identity_in backend server)

-- the numbers of such a server in the backend of that number
abbrev pub numbers_at : ServerIdentity → ℕ → Backend → Option ServerNumbers
numbers_at known number backend =
    option_map (λ n. record { backend = number; server = n }) (position (is_checked_as known backend) backend.servers)

-- the number of the backend of that name
abbrev pub backend_number : List ℕ → Plan → Option ℕ
backend_number name plan = position (λ backend. bytes_eq backend.name name) plan.backends

-- the numbers of such a server in a plan
abbrev pub numbers_in : ServerIdentity → Plan → Option ServerNumbers
numbers_in known plan =
    option_and_then (λ number. option_and_then (numbers_at known number) (slice_get plan.backends number)) (backend_number known.backend plan)

-- the numbers, in the newest version, of the checked server that is known by that
abbrev pub checked_numbers : List Version → ServerIdentity → Option ServerNumbers
checked_numbers versions known = option_and_then (λ version. numbers_in known version.plan) (newest versions)
