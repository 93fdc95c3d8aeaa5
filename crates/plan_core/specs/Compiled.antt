-- The plan of what the lines of a configuration say, or its fault.
use Rattle.std.specs.Prelude.{ℕ, List, [], map, option_and_then, Option, Some, None, Result, Ok, Err}
pub use Rattle.conf_line.specs.declared.fault.ConfFault.{ConfFault}
pub use Rattle.conf_tree.specs.declared.tree.ConfigLine.{ConfigLine}
use Rattle.conf_line.specs.declared.statement.Ruleset.TheVariants.{Connection, Session}
use Rattle.conf_line.specs.declared.statement.TimeoutKind.TheVariants as timeouts
use Rattle.plan_core.specs.declared.fault.PlanFault.{PlanFault}
use Rattle.plan_core.specs.declared.fields.Named.{Named}
use Rattle.plan_types.specs.declared.plan.Backend.{Backend}
use Rattle.plan_types.specs.declared.plan.Frontend.{Frontend}
pub use Rattle.plan_types.specs.declared.plan.Plan.{Plan}
use Rattle.plan_types.specs.declared.plan.Table.{Table}
use Rattle.plan_core.specs.declared.proxies.Proxy.{Proxy}
use Rattle.plan_core.specs.Proxies.{proxies, frontends, backends}
use Rattle.plan_core.specs.Fields.{line_bind, line_default, line_server, line_rule, line_choice, acls_in, all_of, setting_in, limit_in, method_in, timeout_in, retries_in, redispatch_in, tables_in, backend_number}
use Rattle.plan_core.specs.Faults.{faults_of, least}

-- a backend with its servers
abbrev pub backend_of : Proxy → Backend
backend_of proxy = record {
  name = proxy.head.name;
  line = proxy.head.line;
  method = method_in proxy;
  connect_timeout = timeout_in timeouts.Connect proxy;
  server_timeout = timeout_in timeouts.Server proxy;
  retries = retries_in proxy;
  redispatch = redispatch_in proxy;
  servers = all_of line_server proxy.own;
}

abbrev pub backends_in : List Proxy → List Backend
backends_in all = map backend_of (backends all)

-- the number of the backend that is named
abbrev pub default_number : List Backend → Option Named → Option ℕ
default_number all setting = option_and_then (λ named. backend_number all named.name) setting

-- a frontend with its lines, where tables and backends are numbered so
abbrev pub frontend_of : List Table → List Backend → Proxy → Frontend
frontend_of tables all proxy = record {
  name = proxy.head.name;
  line = proxy.head.line;
  binds = all_of line_bind proxy.own;
  limit = (limit_in proxy).limit;
  limit_line = (limit_in proxy).line;
  client_timeout = timeout_in timeouts.Client proxy;
  connection_rules = all_of (line_rule Connection tables proxy.head.name) proxy.own;
  session_rules = all_of (line_rule Session tables proxy.head.name) proxy.own;
  acls = acls_in proxy.own;
  choices = all_of (line_choice all) proxy.own;
  default = default_number all (setting_in line_default proxy);
}

abbrev pub frontends_in : List Proxy → List Frontend
frontends_in all = map (frontend_of (tables_in all) (backends_in all)) (frontends all)

abbrev pub plan_with : List Proxy → Plan
plan_with all = record { frontends = frontends_in all; backends = backends_in all; tables = tables_in all }

-- all that is wrong with a plan of the lines
abbrev pub plan_faults : List ConfigLine → List PlanFault
plan_faults items = faults_of (tables_in (proxies [] items)) (backends_in (proxies [] items)) (proxies [] items)

abbrev pub plan_or : List Proxy → Option PlanFault → Result Plan PlanFault
plan_or all None = Ok (plan_with all)
plan_or all (Some fault) = Err fault

-- the plan of the lines, or the first of the faults
abbrev pub plan_of : List ConfigLine → Result Plan PlanFault
plan_of items = plan_or (proxies [] items) (least (plan_faults items))
