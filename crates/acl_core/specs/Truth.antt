-- When a test and a condition are true (HAProxy manual, "using ACLs to form conditions").
use Rattle.std.specs.Prelude.{ℕ, Bool, true, false, not, ◌&&◌, ◌==◌, nat_le, nat_lt, List, slice_get, Option, Some, None, if◌then◌else◌}
use Rattle.std.specs.List.{list_any, list_all}
use Rattle.addr_core.specs.Prefix.{holds}
use Rattle.acl_core.specs.declared.criterion.Criterion.{Criterion}
use Rattle.acl_core.specs.declared.criterion.Pattern.{Pattern}
use Rattle.acl_core.specs.declared.criterion.Operator.{Operator}
use Rattle.acl_core.specs.declared.criterion.Operator.TheVariants.{Equal, AtLeast, Above, AtMost, Below}
use Rattle.acl_core.specs.declared.criterion.Pattern.TheVariants.{Network, Within, Compared}
use Rattle.acl_core.specs.declared.criterion.Value.{Value}
use Rattle.acl_core.specs.declared.criterion.Value.TheVariants.{Absent, Number, Source}
use Rattle.acl_core.specs.TestValue.{TestValue}
use Rattle.acl_core.specs.declared.condition.Acl.{Acl}
use Rattle.acl_core.specs.declared.condition.Operand.{Operand}
use Rattle.acl_core.specs.declared.condition.Operand.TheVariants as operands
use Rattle.acl_core.specs.declared.condition.Term.{Term}
use Rattle.acl_core.specs.declared.condition.Cond.{Cond}
use Rattle.acl_core.specs.declared.condition.When.{When}
use Rattle.acl_core.specs.declared.condition.When.TheVariants.{Always, If, Unless}

-- a number compares so with a bound
abbrev pub compares : Operator → ℕ → ℕ → Bool
compares Equal number bound = number == bound
compares AtLeast number bound = nat_le bound number
compares Above number bound = nat_lt bound number
compares AtMost number bound = nat_le number bound
compares Below number bound = nat_lt number bound

-- a pattern holds a value; an absent value matches nothing
abbrev pub matches : Value → Pattern → Bool
matches Absent pattern = false
matches (Number number) (Network net) = false
matches (Number number) (Within least most) = nat_le least number && nat_le number most
matches (Number number) (Compared operator bound) = compares operator number bound
matches (Source addr) (Network net) = holds net addr
matches (Source addr) (Within least most) = false
matches (Source addr) (Compared operator bound) = false

-- a test is true where the criterion has a value that some pattern holds
abbrev pub test_holds : (Criterion → Value) → TestValue → Bool
test_holds worth test = list_any (matches (worth test.criterion)) test.patterns

-- an ACL is true where some test of its name is
abbrev pub acl_holds : (Criterion → Value) → Acl → Bool
acl_holds worth acl = list_any (test_holds worth) acl.tests

-- nothing is true of a name that is not there
abbrev pub named_holds : (Criterion → Value) → Option Acl → Bool
named_holds worth None = false
named_holds worth (Some acl) = acl_holds worth acl

-- what a term asks, in a section with those ACLs
abbrev pub operand_holds : List Acl → (Criterion → Value) → Operand → Bool
operand_holds acls worth (operands.Constant truth) = truth
operand_holds acls worth (operands.Test test) = test_holds worth test
operand_holds acls worth (operands.Acl number) = named_holds worth (slice_get acls number)

abbrev pub term_holds : List Acl → (Criterion → Value) → Term → Bool
term_holds acls worth term = if term.negated then not (operand_holds acls worth term.operand) else operand_holds acls worth term.operand

-- in some group all terms hold
abbrev pub condition_holds : List Acl → (Criterion → Value) → Cond → Bool
condition_holds acls worth condition = list_any (λ group. list_all (term_holds acls worth) group) condition.groups

-- when a line applies
abbrev pub applies : List Acl → (Criterion → Value) → When → Bool
applies acls worth Always = true
applies acls worth (If condition) = condition_holds acls worth condition
applies acls worth (Unless condition) = not (condition_holds acls worth condition)
