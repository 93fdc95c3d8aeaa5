-- What every plan that is made keeps.
use Rattle.std.specs.Prelude.{◌≢◌, ℕ, ◌≤◌, ◌<◌, List, [], ◌∷◌, length, map, IfSome}
use Rattle.std.specs.List.{AllByRecursion}
use Rattle.proxy_types.specs.declared.limits.TheConstants.{MOST_SECTIONS, MOST_TABLES, MOST_BINDS, MOST_SERVERS, MOST_CONNECTIONS, MOST_ENTRIES, GREATEST_WEIGHT, COUNTERS}
use Rattle.plan_types.specs.declared.plan.Action.{Action}
use Rattle.plan_types.specs.declared.plan.Action.TheVariants as actions
use Rattle.plan_types.specs.declared.plan.Backend.{Backend}
use Rattle.plan_types.specs.declared.plan.Check.{Check}
use Rattle.plan_types.specs.declared.plan.Choice.{Choice}
use Rattle.plan_types.specs.declared.plan.Frontend.{Frontend}
use Rattle.plan_types.specs.declared.plan.Plan.{Plan}
use Rattle.plan_types.specs.declared.plan.Rule.{Rule}
use Rattle.plan_types.specs.declared.plan.Server.{Server}
use Rattle.plan_types.specs.declared.plan.Table.{Table}
use Rattle.plan_types.specs.Lines.{LinesDiffer}

-- Rules.

-- a counter tracks in one of so many tables
abbrev pub IsSoundAction : ℕ → Action → Type 0
IsSoundAction tables (actions.Track counter table) = (counter < COUNTERS) × (table < tables)
IsSoundAction tables event = Unit {0}

-- each rule's line is less than those of all rules after it
abbrev pub RulesRise : List Rule → Type 0
RulesRise [] = Unit {0}
RulesRise (rule ∷ rest) = AllByRecursion (λ other. rule.line < other.line) rest × RulesRise rest

-- the rules of a list, where there are so many tables
pub record AreSoundRules (tables : ℕ) (rules : List Rule) : Type 0 where
  pub actions : AllByRecursion (λ rule. IsSoundAction tables rule.action) rules
  pub rise : RulesRise rules

-- Choices.

-- each choice's line is less than those of all choices after it
abbrev pub ChoicesRise : List Choice → Type 0
ChoicesRise [] = Unit {0}
ChoicesRise (choice ∷ rest) = AllByRecursion (λ other. choice.line < other.line) rest × ChoicesRise rest

-- the `use_backend` lines of a frontend, where there are so many backends
pub record AreSoundChoices (backends : ℕ) (choices : List Choice) : Type 0 where
  pub within : AllByRecursion (λ choice. choice.backend < backends) choices
  pub rise : ChoicesRise choices

-- Sections.

-- from 1 to the greatest
abbrev pub IsWithin : ℕ → ℕ → Type 0
IsWithin most number = (1 ≤ number) × (number ≤ most)

-- each name differs from all after it
abbrev pub NamesDiffer : List (List ℕ) → Type 0
NamesDiffer [] = Unit {0}
NamesDiffer (name ∷ rest) = AllByRecursion (λ other. other ≢ name) rest × NamesDiffer rest

-- a frontend, where there are so many tables and backends
pub record IsSoundFrontend (tables backends : ℕ) (frontend : Frontend) : Type 0 where
  pub binds : IsWithin MOST_BINDS (length frontend.binds)
  pub limit : IsWithin MOST_CONNECTIONS frontend.limit
  pub connection_rules : AreSoundRules tables frontend.connection_rules
  pub session_rules : AreSoundRules tables frontend.session_rules
  pub choices : AreSoundChoices backends frontend.choices
  pub default : IfSome frontend.default (λ n. n < backends)

-- the time between two checks, and the numbers of them, are from 1 on
pub record IsSoundCheck (check : Check) : Type 0 where
  pub inter : 1 ≤ check.inter
  pub fall : 1 ≤ check.fall
  pub rise : 1 ≤ check.rise

pub record IsSoundServer (server : Server) : Type 0 where
  pub weight : server.weight ≤ GREATEST_WEIGHT
  pub limit : server.limit ≤ MOST_CONNECTIONS
  pub check : IfSome server.check IsSoundCheck

pub record IsSoundBackend (backend : Backend) : Type 0 where
  pub servers : length backend.servers ≤ MOST_SERVERS
  pub each_server : AllByRecursion IsSoundServer backend.servers
  pub server_names : NamesDiffer (map (λ server. server.name) backend.servers)

abbrev pub IsSoundTable : Table → Type 0
IsSoundTable table = IsWithin MOST_ENTRIES table.size

-- Plans.

pub record IsSoundPlan (plan : Plan) : Type 0 where
  pub frontends : length plan.frontends ≤ MOST_SECTIONS
  pub backends : length plan.backends ≤ MOST_SECTIONS
  pub tables : length plan.tables ≤ MOST_TABLES
  pub each_frontend : AllByRecursion (IsSoundFrontend (length plan.tables) (length plan.backends)) plan.frontends
  pub each_backend : AllByRecursion IsSoundBackend plan.backends
  pub each_table : AllByRecursion IsSoundTable plan.tables
  pub frontend_names : NamesDiffer (map (λ frontend. frontend.name) plan.frontends)
  pub backend_names : NamesDiffer (map (λ backend. backend.name) plan.backends)
  -- no two backends have servers of one line
  pub lines : LinesDiffer plan
