-- A part of a configuration: some frontends, and the backends and tables that are theirs alone.
use Rattle.std.specs.Prelude.{ℕ, Bool, true, false, not, List, slice_get, Option, Some, None, ◌&&◌}
use Rattle.std.specs.List.{list_all}
use Rattle.std.specs.Option.{option_map_or}
use Rattle.acl_core.specs.declared.criterion.Criterion.{Criterion}
use Rattle.acl_core.specs.declared.criterion.Criterion.TheVariants as criteria
use Rattle.acl_core.specs.declared.condition.Acl.{Acl}
use Rattle.acl_core.specs.declared.condition.Operand.{Operand}
use Rattle.acl_core.specs.declared.condition.Operand.TheVariants as operands
use Rattle.acl_core.specs.declared.condition.Term.{Term}
use Rattle.acl_core.specs.declared.condition.Cond.{Cond}
use Rattle.acl_core.specs.declared.condition.When.{When}
use Rattle.acl_core.specs.declared.condition.When.TheVariants.{Always, If, Unless}
use Rattle.acl_core.specs.TestValue.{TestValue}
use Rattle.plan_types.specs.Tables.{table_number}
use Rattle.plan_types.specs.declared.plan.Action.{Action}
use Rattle.plan_types.specs.declared.plan.Action.TheVariants as actions
use Rattle.plan_types.specs.declared.plan.Choice.{Choice}
use Rattle.plan_types.specs.declared.plan.Frontend.{Frontend}
use Rattle.plan_types.specs.declared.plan.Plan.{Plan}
use Rattle.plan_types.specs.declared.plan.Rule.{Rule}
use Rattle.plan_types.specs.declared.plan.Section.{Section}
use Rattle.plan_types.specs.declared.plan.Table.{Table}

-- its frontends by their numbers, and the names of its frontends, of its backends, and of the sections of its tables
pub record Part : Type 0 where
  pub frontends : ℕ → Bool
  pub frontend_names : List ℕ → Bool
  pub backend_names : List ℕ → Bool
  pub table_names : Section → List ℕ → Bool

-- What is the part's.

abbrev pub owns_table : Part → Table → Bool
owns_table part table = part.table_names table.section table.name

-- by numbers in a plan
abbrev pub owns_table_at : Part → Plan → ℕ → Bool
owns_table_at part plan number = option_map_or (owns_table part) (slice_get plan.tables number) false

abbrev pub owns_backend_at : Part → Plan → ℕ → Bool
owns_backend_at part plan number = option_map_or (λ backend. part.backend_names backend.name) (slice_get plan.backends number) false

-- On one side, the part's (`true`) or the others'.

-- what is the part's is on that side
abbrev pub is_side : Bool → Bool → Bool
is_side true owned = owned
is_side false owned = not owned

abbrev pub keeps_table : Part → Bool → Plan → ℕ → Bool
keeps_table part side plan number = is_side side (owns_table_at part plan number)

-- where some table is meant
abbrev pub keeps_meant : Part → Bool → Plan → Option ℕ → Bool
keeps_meant part side plan None = true
keeps_meant part side plan (Some number) = keeps_table part side plan number

abbrev pub keeps_backend : Part → Bool → Plan → ℕ → Bool
keeps_backend part side plan number = is_side side (owns_backend_at part plan number)

-- all that a criterion means in the frontend of that name is on the side
abbrev pub keeps_criterion : Part → Bool → Plan → List ℕ → Criterion → Bool
keeps_criterion part side plan own criteria.Source = true
keeps_criterion part side plan own (criteria.TrackedConnections counter) = true
keeps_criterion part side plan own (criteria.TrackedTotal counter) = true
keeps_criterion part side plan own (criteria.SourceConnections name) = keeps_meant part side plan (table_number plan.tables own name)
keeps_criterion part side plan own (criteria.SourceTotal name) = keeps_meant part side plan (table_number plan.tables own name)
keeps_criterion part side plan own (criteria.FrontendConnections None) = true
keeps_criterion part side plan own (criteria.FrontendConnections (Some name)) = is_side side (part.frontend_names name)
keeps_criterion part side plan own (criteria.BackendConnections name) = is_side side (part.backend_names name)

-- Conditions of which each criterion passes a test.

abbrev pub tests_pass : (Criterion → Bool) → List TestValue → Bool
tests_pass passes tests = list_all (λ test. passes test.criterion) tests

-- the tests of a name that a condition asks for
abbrev pub acl_passes : (Criterion → Bool) → Option Acl → Bool
acl_passes passes None = true
acl_passes passes (Some acl) = tests_pass passes acl.tests

abbrev pub operand_passes : (Criterion → Bool) → List Acl → Operand → Bool
operand_passes passes acls (operands.Constant truth) = true
operand_passes passes acls (operands.Test test) = passes test.criterion
operand_passes passes acls (operands.Acl number) = acl_passes passes (slice_get acls number)

abbrev pub group_passes : (Criterion → Bool) → List Acl → List Term → Bool
group_passes passes acls group = list_all (λ term. operand_passes passes acls term.operand) group

abbrev pub condition_passes : (Criterion → Bool) → List Acl → Cond → Bool
condition_passes passes acls condition = list_all (group_passes passes acls) condition.groups

abbrev pub when_passes : (Criterion → Bool) → List Acl → When → Bool
when_passes passes acls Always = true
when_passes passes acls (If condition) = condition_passes passes acls condition
when_passes passes acls (Unless condition) = condition_passes passes acls condition

-- Rules of which each table and each criterion passes.

abbrev pub action_passes : (ℕ → Bool) → Action → Bool
action_passes table (actions.Track counter number) = table number
action_passes table event = true

abbrev pub rule_passes : (ℕ → Bool) → (Criterion → Bool) → List Acl → Rule → Bool
rule_passes table passes acls rule = action_passes table rule.action && when_passes passes acls rule.when

abbrev pub rules_pass : (ℕ → Bool) → (Criterion → Bool) → List Acl → List Rule → Bool
rules_pass table passes acls rules = list_all (rule_passes table passes acls) rules

-- the `use_backend` lines of a frontend, and its default backend

abbrev pub choice_passes : (ℕ → Bool) → (Criterion → Bool) → List Acl → Choice → Bool
choice_passes backend passes acls choice = when_passes passes acls choice.when && backend choice.backend

abbrev pub choices_pass : (ℕ → Bool) → (Criterion → Bool) → List Acl → List Choice → Bool
choices_pass backend passes acls choices = list_all (choice_passes backend passes acls) choices

-- A plan that keeps the part apart.

-- all that the lines of a frontend mean is on that side
abbrev pub keeps_lines : Part → Bool → Plan → Frontend → Bool
keeps_lines part side plan frontend =
    rules_pass (keeps_table part side plan) (keeps_criterion part side plan frontend.name) frontend.acls frontend.connection_rules
    && (rules_pass (keeps_table part side plan) (keeps_criterion part side plan frontend.name) frontend.acls frontend.session_rules
    && (choices_pass (keeps_backend part side plan) (keeps_criterion part side plan frontend.name) frontend.acls frontend.choices
    && option_map_or (keeps_backend part side plan) frontend.default true))

-- the lines of a frontend of the part mean only what is the part's, and those of any other nothing that is
abbrev pub keeps_frontend : Part → Plan → Frontend → Bool
keeps_frontend part plan frontend = keeps_lines part (part.frontend_names frontend.name) plan frontend

-- so of each frontend
abbrev pub keeps_apart : Part → Plan → Bool
keeps_apart part plan = list_all (keeps_frontend part plan) plan.frontends
