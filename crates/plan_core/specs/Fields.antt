-- What the lines of a frontend or backend say of each matter.
use Rattle.std.specs.Prelude.{ℕ, Bool, true, false, List, [], ◌∷◌, map, slice_get, position, unwrap_or, option_and_then, Option, Some, None, ◌==◌, if◌then◌else◌}
use Rattle.std.specs.List.{filter_map}
use Rattle.std.specs.Option.{option_or, option_map, option_map_or}
use Rattle.std.specs.Str.{bytes_eq}
use Rattle.acl_core.specs.TestValue.{TestValue}
use Rattle.acl_core.specs.declared.condition.Acl.{Acl}
use Rattle.acl_core.specs.declared.condition.When.{When}
use Rattle.conf_line.specs.declared.statement.ActionWords as tree
use Rattle.conf_line.specs.declared.statement.ActionWords.TheVariants as words
use Rattle.conf_tree.specs.declared.tree.ConfigLine.{ConfigLine}
use Rattle.conf_tree.specs.Config.{acl_names}
use Rattle.proxy_types.specs.declared.balance.Method.{Method}
use Rattle.proxy_types.specs.declared.balance.Method.TheVariants.{RoundRobin}
use Rattle.proxy_types.specs.declared.table.Stores.{Stores}
use Rattle.conf_line.specs.declared.statement.Ruleset.{Ruleset}
use Rattle.conf_line.specs.declared.statement.Ruleset.TheVariants.{Connection, Session}
use Rattle.conf_line.specs.declared.statement.ServerWords.{ServerWords}
use Rattle.conf_line.specs.declared.statement.Statement.{Statement}
use Rattle.conf_line.specs.declared.statement.Statement.TheVariants as statements
use Rattle.conf_line.specs.declared.statement.TableWords.{TableWords}
use Rattle.conf_line.specs.declared.statement.TimeoutKind.{TimeoutKind}
use Rattle.conf_line.specs.declared.statement.TimeoutKind.TheVariants as timeouts
use Rattle.plan_types.specs.declared.plan.Action.{Action}
use Rattle.plan_types.specs.declared.plan.Action.TheVariants as actions
use Rattle.plan_types.specs.declared.plan.Backend.{Backend}
use Rattle.plan_types.specs.declared.plan.Bind.{Bind}
use Rattle.plan_types.specs.declared.plan.Check.{Check}
use Rattle.plan_types.specs.declared.plan.Choice.{Choice}
use Rattle.plan_types.specs.declared.plan.Redispatch.{Redispatch}
use Rattle.plan_types.specs.declared.plan.Redispatch.TheVariants.{Never, Last, Every}
use Rattle.plan_types.specs.declared.plan.Rule.{Rule}
use Rattle.plan_types.specs.declared.plan.Server.{Server}
use Rattle.plan_types.specs.declared.plan.Table.{Table}
use Rattle.plan_core.specs.declared.proxies.SectionHead.{SectionHead}
use Rattle.plan_core.specs.declared.proxies.Proxy.{Proxy}
use Rattle.plan_core.specs.declared.fields.TheConstants.{DEFAULT_CONNECTIONS, DEFAULT_FALL, DEFAULT_INTERVAL, DEFAULT_RETRIES, DEFAULT_RISE}
use Rattle.plan_core.specs.declared.fields.Limit.{Limit}
use Rattle.plan_core.specs.declared.fields.Named.{Named}
pub use Rattle.plan_types.specs.Tables.{is_table_of, table_number}

-- What one line says of a matter, if anything.

abbrev pub line_bind : ℕ → Statement → Option Bind
line_bind line (statements.Bind at proxy) = Some (record { at = at; accept_proxy = proxy })
line_bind line other = None

abbrev pub line_limit : ℕ → Statement → Option Limit
line_limit line (statements.MaxConn limit) = Some (record { limit = limit; line = line })
line_limit line other = None

abbrev pub line_default : ℕ → Statement → Option Named
line_default line (statements.DefaultBackend name) = Some (record { name = name; line = line })
line_default line other = None

abbrev pub line_method : ℕ → Statement → Option Method
line_method line (statements.Balance method) = Some method
line_method line other = None

abbrev pub line_timeout : TimeoutKind → ℕ → Statement → Option ℕ
line_timeout timeouts.Connect line (statements.Timeout timeouts.Connect ms) = Some ms
line_timeout timeouts.Client line (statements.Timeout timeouts.Client ms) = Some ms
line_timeout timeouts.Server line (statements.Timeout timeouts.Server ms) = Some ms
line_timeout kind line other = None

abbrev pub line_retries : ℕ → Statement → Option ℕ
line_retries line (statements.Retries count) = Some count
line_retries line other = None

abbrev pub line_redispatch : ℕ → Statement → Option (Option ℕ)
line_redispatch line (statements.Redispatch every) = Some every
line_redispatch line other = None

abbrev pub line_table : ℕ → Statement → Option TableWords
line_table line (statements.StickTable table) = Some table
line_table line other = None

-- how a server is checked, if it is
abbrev pub check_with : ServerWords → Option Check
check_with server =
    if server.check
    then Some (record { inter = unwrap_or server.inter DEFAULT_INTERVAL; fall = unwrap_or server.fall DEFAULT_FALL; rise = unwrap_or server.rise DEFAULT_RISE })
    else None

-- weight 1 and any number of connections where nothing is given
abbrev pub line_server : ℕ → Statement → Option Server
line_server line (statements.Server server) =
    Some (record {
      name = server.name;
      line = line;
      to = server.to;
      weight = unwrap_or server.weight 1;
      limit = unwrap_or server.limit 0;
      disabled = server.disabled;
      send_proxy = server.send_proxy;
      send_proxy_v2 = server.send_proxy_v2;
      check = check_with server;
    })
line_server line other = None

-- What some lines say of it: all in their order, or the last.

abbrev pub all_of : {X : Type 0} → (ℕ → Statement → Option X) → List ConfigLine → List X
all_of setting items = filter_map (λ item. setting item.line item.statement) items

abbrev pub last_of : {X : Type 0} → (ℕ → Statement → Option X) → List ConfigLine → Option X
last_of setting [] = None
last_of setting (item ∷ rest) = option_or (last_of setting rest) (setting item.line item.statement)

-- the last in the section itself, or else in the `defaults` in force
abbrev pub setting_in : {X : Type 0} → (ℕ → Statement → Option X) → Proxy → Option X
setting_in setting proxy = option_or (last_of setting proxy.own) (last_of setting proxy.base)

-- 2,000 connections where no limit is given, citing the section's own line
abbrev pub limit_in : Proxy → Limit
limit_in proxy = unwrap_or (setting_in line_limit proxy) (record { limit = DEFAULT_CONNECTIONS; line = proxy.head.line })

-- round robin where nothing is given
abbrev pub method_in : Proxy → Method
method_in proxy = unwrap_or (setting_in line_method proxy) RoundRobin

-- 0 where nothing is given, which is no bound
abbrev pub timeout_in : TimeoutKind → Proxy → ℕ
timeout_in kind proxy = unwrap_or (setting_in (line_timeout kind) proxy) 0

-- the last of the times where the line gives no number
abbrev pub redispatch_with : Option ℕ → Redispatch
redispatch_with None = Last
redispatch_with (Some every) = if every == 0 then Never else Every every

abbrev pub redispatch_in : Proxy → Redispatch
redispatch_in proxy = option_map_or redispatch_with (setting_in line_redispatch proxy) Never

-- a server is not dialled again where nothing is given, unless another one may be dialled
abbrev pub default_retries : Redispatch → ℕ
default_retries Never = 0
default_retries Last = DEFAULT_RETRIES
default_retries (Every number) = DEFAULT_RETRIES

abbrev pub retries_in : Proxy → ℕ
retries_in proxy = unwrap_or (setting_in line_retries proxy) (default_retries (redispatch_in proxy))

-- Tables.

abbrev pub table_with : SectionHead → TableWords → Table
table_with head words = record {
  section = head.section;
  name = head.name;
  kind = words.keys;
  size = words.size;
  stores = words.stores;
  expire = words.expire;
}

-- the table of a section
abbrev pub table_in : Proxy → Option Table
table_in proxy = option_map (table_with proxy.head) (last_of line_table proxy.own)

-- all tables, those of frontends and backends mixed, in the order of the text
abbrev pub tables_in : List Proxy → List Table
tables_in all = filter_map table_in all

abbrev pub stores_at : List Table → ℕ → Option Stores
stores_at tables number = option_map (λ (table : Table). table.stores) (slice_get tables number)

-- what the table that is meant stores, if it is there
abbrev pub stores_meant : List Table → List ℕ → Option (List ℕ) → Option Stores
stores_meant tables name named = option_and_then (stores_at tables) (table_number tables name named)

-- Rules.

abbrev pub track_with : ℕ → ℕ → Action
track_with counter table = actions.Track counter table

-- what a rule does, if the table that it means is there
abbrev pub action_of : List Table → List ℕ → tree.ActionWords → Option Action
action_of tables name words.Accept = Some actions.Accept
action_of tables name words.Reject = Some actions.Reject
action_of tables name (words.Track track) = option_map (track_with track.counter) (table_number tables name track.table)
action_of tables name words.ExpectProxy = Some actions.ExpectProxy

abbrev pub is_in : Ruleset → Ruleset → Bool
is_in Connection Connection = true
is_in Connection Session = false
is_in Session Connection = false
is_in Session Session = true

abbrev pub rule_with : ℕ → When → Action → Rule
rule_with line when action = record { line = line; action = action; when = when }

-- the rule that a line puts on that list
abbrev pub line_rule : Ruleset → List Table → List ℕ → ℕ → Statement → Option Rule
line_rule list tables name line (statements.Rule other action when) =
    if is_in list other then option_map (rule_with line when) (action_of tables name action) else None
line_rule list tables name line other = None

-- Backends.

-- the number of the backend of that name
abbrev pub backend_number : List Backend → List ℕ → Option ℕ
backend_number backends name = position (λ backend. bytes_eq backend.name name) backends

abbrev pub choice_with : ℕ → When → ℕ → Choice
choice_with line when backend = record { line = line; when = when; backend = backend }

-- the backend that a line uses, if it is there
abbrev pub line_choice : List Backend → ℕ → Statement → Option Choice
line_choice backends line (statements.UseBackend name when) = option_map (choice_with line when) (backend_number backends name)
line_choice backends line other = None

-- ACLs.

-- the test that a line declares for that name
abbrev pub line_test : List ℕ → ℕ → Statement → Option TestValue
line_test name line (statements.Acl other test) = if bytes_eq other name then Some test else None
line_test name line other = None

-- a name with the tests of all its declarations
abbrev pub acl_of : List ConfigLine → List ℕ → Acl
acl_of own name = record { name = name; tests = all_of (line_test name) own }

-- the names that some lines declare, in the order of their first declarations
abbrev pub acls_in : List ConfigLine → List Acl
acls_in own = map (acl_of own) (acl_names own)
