-- Where each criterion is worth the same, the same is true.
use Rattle.std.proofs.Common.{◌≡◌, Bool, not, List, [], ◌∷◌, refl, ap}
use Rattle.std.specs.Prelude.{slice_get, Option, Some, None, if◌then◌else◌}
use Rattle.std.specs.List.{list_any, list_all}
use Rattle.acl_core.specs.declared.criterion.Criterion.{Criterion}
use Rattle.acl_core.specs.declared.criterion.Value.{Value}
use Rattle.acl_core.specs.declared.condition.Acl.{Acl}
use Rattle.acl_core.specs.declared.condition.Operand.{Operand}
use Rattle.acl_core.specs.declared.condition.Operand.TheVariants as operands
use Rattle.acl_core.specs.declared.condition.Term.{Term}
use Rattle.acl_core.specs.declared.condition.When.{When}
use Rattle.acl_core.specs.declared.condition.When.TheVariants.{Always, If, Unless}
use Rattle.acl_core.specs.TestValue.{TestValue}
use Rattle.acl_core.specs.Truth.{matches, test_holds, named_holds, operand_holds, term_holds, applies}

any-same : {X : Type 0} (p q : X → Bool) → ((x : X) → p x ≡ q x) → (xs : List X) → list_any p xs ≡ list_any q xs
any-same p q same [] = refl
any-same p q same (x ∷ xs) = rw (same x, any-same p q same xs) refl

all-same : {X : Type 0} (p q : X → Bool) → ((x : X) → p x ≡ q x) → (xs : List X) → list_all p xs ≡ list_all q xs
all-same p q same [] = refl
all-same p q same (x ∷ xs) = rw (same x, all-same p q same xs) refl

test-same : (f g : Criterion → Value) → ((criterion : Criterion) → f criterion ≡ g criterion) → (test : TestValue) → test_holds f test ≡ test_holds g test
test-same f g same test = ap (λ value. list_any (matches value) test.patterns) (same test.criterion)

named-same : (f g : Criterion → Value) → ((criterion : Criterion) → f criterion ≡ g criterion) → (acl : Option Acl) → named_holds f acl ≡ named_holds g acl
named-same f g same None = refl
named-same f g same (Some acl) = any-same (test_holds f) (test_holds g) (test-same f g same) acl.tests

operand-same : (acls : List Acl) (f g : Criterion → Value) → ((criterion : Criterion) → f criterion ≡ g criterion) → (operand : Operand) →
    operand_holds acls f operand ≡ operand_holds acls g operand
operand-same acls f g same (operands.Constant truth) = refl
operand-same acls f g same (operands.Test test) = test-same f g same test
operand-same acls f g same (operands.Acl number) = named-same f g same (slice_get acls number)

term-same : (acls : List Acl) (f g : Criterion → Value) → ((criterion : Criterion) → f criterion ≡ g criterion) → (term : Term) → term_holds acls f term ≡ term_holds acls g term
term-same acls f g same term = ap (λ truth. if term.negated then not truth else truth) (operand-same acls f g same term.operand)

groups-same : (acls : List Acl) (f g : Criterion → Value) → ((criterion : Criterion) → f criterion ≡ g criterion) → (groups : List (List Term)) →
    list_any (λ group. list_all (term_holds acls f) group) groups ≡ list_any (λ group. list_all (term_holds acls g) group) groups
groups-same acls f g same groups =
    any-same (λ group. list_all (term_holds acls f) group) (λ group. list_all (term_holds acls g) group)
    (all-same (term_holds acls f) (term_holds acls g) (term-same acls f g same)) groups

-- a line applies alike
pub applies-same : (acls : List Acl) (f g : Criterion → Value) → ((criterion : Criterion) → f criterion ≡ g criterion) → (when : When) → applies acls f when ≡ applies acls g when
applies-same acls f g same Always = refl
applies-same acls f g same (If condition) = groups-same acls f g same condition.groups
applies-same acls f g same (Unless condition) = ap not (groups-same acls f g same condition.groups)
