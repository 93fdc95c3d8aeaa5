-- What may be wrong with a configuration as a whole, and which fault is reported.
use Rattle.std.specs.Prelude.{◌≡◌, ℕ, Bool, false, ◌&&◌, ◌||◌, ◌==◌, nat_lt, List, [], ◌∷◌, ◌++◌, is_some, flat_map, option_map, option_to_list, Option, Some, None, if◌then◌else◌, All, Contains}
use Rattle.std.specs.List.{list_any, filter_map}
use Rattle.std.specs.Str.{bytes_eq}
use Rattle.acl_core.specs.TestValue.{TestValue}
use Rattle.acl_core.specs.declared.condition.Cond.{Cond}
use Rattle.acl_core.specs.declared.condition.Operand.{Operand}
use Rattle.acl_core.specs.declared.condition.Operand.TheVariants as operands
use Rattle.acl_core.specs.declared.condition.Term.{Term}
use Rattle.acl_core.specs.declared.condition.When.{When}
use Rattle.acl_core.specs.declared.condition.When.TheVariants as whens
use Rattle.acl_core.specs.declared.criterion.Criterion.{Criterion}
use Rattle.acl_core.specs.declared.criterion.Criterion.TheVariants as criteria
use Rattle.conf_tree.specs.declared.tree.ConfigLine.{ConfigLine}
use Rattle.conf_line.specs.declared.statement.ActionWords.{ActionWords}
use Rattle.conf_line.specs.declared.statement.Statement.{Statement}
use Rattle.conf_line.specs.declared.statement.Statement.TheVariants as statements
use Rattle.plan_core.specs.declared.fault.PlanFault.{PlanFault}
use Rattle.plan_core.specs.declared.fault.PlanKind.{PlanKind}
use Rattle.plan_core.specs.declared.fault.PlanKind.TheVariants as kinds
use Rattle.plan_core.specs.declared.fields.Named.{Named}
use Rattle.proxy_types.specs.declared.table.Stores.{Stores}
use Rattle.plan_types.specs.declared.plan.Backend.{Backend}
use Rattle.plan_types.specs.declared.plan.Table.{Table}
use Rattle.plan_core.specs.declared.proxies.Proxy.{Proxy}
use Rattle.plan_core.specs.Proxies.{is_frontend}
use Rattle.plan_core.specs.Fields.{line_bind, line_default, last_of, setting_in, stores_meant, action_of, backend_number}

-- Which of two faults is reported.

abbrev pub kind_number : PlanKind → ℕ
kind_number kinds.NoTable = 0
kind_number kinds.NoBackend = 1
kind_number kinds.NotStored = 2
kind_number kinds.NoBind = 3
kind_number kinds.NoFrontend = 4
kind_number kinds.NoMemory = 5

-- the first comes before the second: its line is less, or on the same line its kind is earlier
abbrev pub is_before : PlanFault → PlanFault → Bool
is_before a b = nat_lt a.line b.line || ((a.line == b.line) && nat_lt (kind_number a.kind) (kind_number b.kind))

abbrev pub earlier : PlanFault → PlanFault → PlanFault
earlier a b = if is_before b a then b else a

abbrev pub earliest : Option PlanFault → Option PlanFault → Option PlanFault
earliest None other = other
earliest (Some a) None = Some a
earliest (Some a) (Some b) = Some (earlier a b)

-- the first of several faults
abbrev pub least : List PlanFault → Option PlanFault
least [] = None
least (fault ∷ rest) = earliest (Some fault) (least rest)

-- it is one of them, and none comes before it
abbrev pub IsLeast : List PlanFault → PlanFault → Type 0
IsLeast faults fault = Contains faults fault × All (λ other. is_before other fault ≡ false) faults

-- what is reported where memory ran out
abbrev pub no_memory : PlanFault
no_memory = record { line = 0; kind = kinds.NoMemory }

-- The faults of a frontend.

-- no `bind` line: reported on the line that opens the frontend
abbrev pub bind_faults : Proxy → List PlanFault
bind_faults proxy = if is_some (last_of line_bind proxy.own) then [] else record { line = proxy.head.line; kind = kinds.NoBind } ∷ []

-- the `default_backend` that counts names no backend: reported on its own line, which may be one of `defaults`
abbrev pub default_faults : List Backend → Option Named → List PlanFault
default_faults backends None = []
default_faults backends (Some named) =
    if is_some (backend_number backends named.name) then [] else record { line = named.line; kind = kinds.NoBackend } ∷ []

-- The faults of a criterion, in the frontend of that name.

-- a table is looked up for one of its counts
abbrev pub stored_kind : Bool → Option PlanKind
stored_kind is_stored = if is_stored then None else Some kinds.NotStored

abbrev pub current_kind : Option Stores → Option PlanKind
current_kind None = Some kinds.NoTable
current_kind (Some stores) = stored_kind stores.cur

abbrev pub total_kind : Option Stores → Option PlanKind
total_kind None = Some kinds.NoTable
total_kind (Some stores) = stored_kind stores.cnt

abbrev pub is_frontend_named : List ℕ → Proxy → Bool
is_frontend_named name proxy = is_frontend proxy && bytes_eq proxy.head.name name

abbrev pub frontend_kind : List Proxy → Option (List ℕ) → Option PlanKind
frontend_kind all None = None
frontend_kind all (Some other) = if list_any (is_frontend_named other) all then None else Some kinds.NoFrontend

abbrev pub backend_kind : List Backend → List ℕ → Option PlanKind
backend_kind backends other = if is_some (backend_number backends other) then None else Some kinds.NoBackend

-- what a criterion asks for is not there
abbrev pub criterion_kind : List Table → List Backend → List Proxy → List ℕ → Criterion → Option PlanKind
criterion_kind tables backends all name criteria.Source = None
criterion_kind tables backends all name (criteria.TrackedConnections counter) = None
criterion_kind tables backends all name (criteria.TrackedTotal counter) = None
criterion_kind tables backends all name (criteria.SourceConnections table) = current_kind (stores_meant tables name table)
criterion_kind tables backends all name (criteria.SourceTotal table) = total_kind (stores_meant tables name table)
criterion_kind tables backends all name (criteria.FrontendConnections frontend) = frontend_kind all frontend
criterion_kind tables backends all name (criteria.BackendConnections backend) = backend_kind backends backend

abbrev pub fault_at : ℕ → PlanKind → PlanFault
fault_at line kind = record { line = line; kind = kind }

abbrev pub test_fault : List Table → List Backend → List Proxy → List ℕ → ℕ → TestValue → Option PlanFault
test_fault tables backends all name line test = option_map (fault_at line) (criterion_kind tables backends all name test.criterion)

-- The faults of a condition: those of the tests that it writes out. A named test's are reported where it is declared.

abbrev pub operand_fault : List Table → List Backend → List Proxy → List ℕ → ℕ → Operand → Option PlanFault
operand_fault tables backends all name line (operands.Test test) = test_fault tables backends all name line test
operand_fault tables backends all name line (operands.Constant truth) = None
operand_fault tables backends all name line (operands.Acl number) = None

abbrev pub group_faults : List Table → List Backend → List Proxy → List ℕ → ℕ → List Term → List PlanFault
group_faults tables backends all name line group = filter_map (λ (term : Term). operand_fault tables backends all name line term.operand) group

abbrev pub condition_faults : List Table → List Backend → List Proxy → List ℕ → ℕ → Cond → List PlanFault
condition_faults tables backends all name line condition = flat_map (group_faults tables backends all name line) condition.groups

abbrev pub when_faults : List Table → List Backend → List Proxy → List ℕ → ℕ → When → List PlanFault
when_faults tables backends all name line whens.Always = []
when_faults tables backends all name line (whens.If condition) = condition_faults tables backends all name line condition
when_faults tables backends all name line (whens.Unless condition) = condition_faults tables backends all name line condition

-- The faults of a line.

-- a rule tracks in a table that is not there
abbrev pub track_fault : List Table → List ℕ → ℕ → ActionWords → Option PlanFault
track_fault tables name line action = if is_some (action_of tables name action) then None else Some (fault_at line kinds.NoTable)

-- a backend is used that is not there
abbrev pub choice_fault : List Backend → ℕ → List ℕ → Option PlanFault
choice_fault backends line backend = option_map (fault_at line) (backend_kind backends backend)

abbrev pub line_faults : List Table → List Backend → List Proxy → List ℕ → ℕ → Statement → List PlanFault
line_faults tables backends all name line (statements.Acl other test) = option_to_list (test_fault tables backends all name line test)
line_faults tables backends all name line (statements.Rule list action when) = option_to_list (track_fault tables name line action) ++ when_faults tables backends all name line when
line_faults tables backends all name line (statements.UseBackend backend when) = option_to_list (choice_fault backends line backend) ++ when_faults tables backends all name line when
line_faults tables backends all name line statements.Nothing = []
line_faults tables backends all name line statements.Global = []
line_faults tables backends all name line statements.Defaults = []
line_faults tables backends all name line (statements.Frontend other) = []
line_faults tables backends all name line (statements.Backend other) = []
line_faults tables backends all name line (statements.MaxConn limit) = []
line_faults tables backends all name line (statements.Timeout kind ms) = []
line_faults tables backends all name line (statements.Retries count) = []
line_faults tables backends all name line (statements.Redispatch every) = []
line_faults tables backends all name line (statements.DefaultBackend backend) = []
line_faults tables backends all name line (statements.Balance method) = []
line_faults tables backends all name line (statements.Bind at proxy) = []
line_faults tables backends all name line (statements.StickTable table) = []
line_faults tables backends all name line (statements.Server server) = []

-- those of the lines of the frontend of that name
abbrev pub own_faults : List Table → List Backend → List Proxy → List ℕ → List ConfigLine → List PlanFault
own_faults tables backends all name own = flat_map (λ (item : ConfigLine). line_faults tables backends all name item.line item.statement) own

abbrev pub frontend_faults : List Table → List Backend → List Proxy → Proxy → List PlanFault
frontend_faults tables backends all proxy =
    bind_faults proxy ++ default_faults backends (setting_in line_default proxy) ++ own_faults tables backends all proxy.head.name proxy.own

-- nothing is wrong with a backend
abbrev pub faults_in : List Table → List Backend → List Proxy → Proxy → List PlanFault
faults_in tables backends all proxy = if is_frontend proxy then frontend_faults tables backends all proxy else []

abbrev pub no_frontend : PlanFault
no_frontend = record { line = 0; kind = kinds.NoFrontend }

-- all faults: without any frontend there is that one alone
abbrev pub faults_of : List Table → List Backend → List Proxy → List PlanFault
faults_of tables backends all =
    if list_any is_frontend all then flat_map (faults_in tables backends all) all else no_frontend ∷ []
