-- How an open connection is served: times in ms, 0 for no bound, and how often its server is dialled again.
use Rattle.std.specs.Prelude.{ℕ, List, find, slice_get, Option, Some, None}
use Rattle.std.specs.Option.{option_and_then, option_map}
use Rattle.plan_types.specs.declared.plan.Backend.{Backend}
use Rattle.plan_types.specs.declared.plan.Frontend.{Frontend}
use Rattle.plan_types.specs.declared.plan.Plan.{Plan}
use Rattle.plan_types.specs.declared.plan.Redispatch.TheVariants.{Never}
use Rattle.plan_types.specs.Lines.{has_line}
use Rattle.conn_model.specs.declared.event.ConnId.{ConnId}
use Rattle.conn_model.specs.declared.plain.FrontendRows.{FrontendRows}
use Rattle.conn_model.specs.declared.plain.Version.{Version}
use Rattle.conn_model.specs.declared.plain.Phase.{Phase}
use Rattle.conn_model.specs.declared.plain.Phase.TheVariants.{Waiting, Offered, Up}
use Rattle.conn_model.specs.declared.plain.Plain.{Plain}
use Rattle.conn_model.specs.declared.plain.Row.{Row}
use Rattle.conn_model.specs.declared.settings.Settings.{Settings}
use Rattle.conn_model.specs.Answer.{frontend_in, row_in, version_at}

-- the line of the server that a connection was offered
abbrev pub server_line : Phase → Option ℕ
server_line (Waiting rest) = None
server_line (Offered assignment) = Some assignment.line
server_line (Up assignment) = Some assignment.line

-- the backend that has the server of that line
abbrev pub backend_with : Plan → Option ℕ → Option Backend
backend_with plan line = option_and_then (λ line. find (has_line line) plan.backends) line

-- those of the frontend, and those of the backend once a server was offered
abbrev pub settings_of : Frontend → Option Backend → Settings
settings_of frontend None = record { client = frontend.client_timeout; connect = 0; server = 0; retries = 0; redispatch = Never }
settings_of frontend (Some backend) = record { client = frontend.client_timeout; connect = backend.connect_timeout; server = backend.server_timeout; retries = backend.retries; redispatch = backend.redispatch }

-- those of a connection to the frontend of that name, which was offered the server of that line, by a plan
abbrev pub settings_by : List ℕ → Option ℕ → Plan → Option Settings
settings_by name line plan = option_map (λ frontend. settings_of frontend (backend_with plan line)) (frontend_in plan name)

-- the same by the version of that number
abbrev pub settings_at : List Version → ℕ → List ℕ → Option ℕ → Option Settings
settings_at versions number name line = option_and_then (λ version. settings_by name line version.plan) (version_at versions number)

-- those of an open connection, by the version that judges it
abbrev pub settings_in : List FrontendRows → List Version → ConnId → Option Settings
settings_in frontends versions id =
    option_and_then (λ own. option_and_then (λ row. settings_at versions row.version own.name (server_line row.phase)) (row_in id.serial (Some own))) (slice_get frontends id.frontend)
