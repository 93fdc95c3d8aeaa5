-- Where each criterion that passes is worth the same, conditions that pass say the same.
use Rattle.std.specs.Prelude.{Bool, true, not, List, [], ◌∷◌, slice_get, find, Option, Some, None, refl, ◌≡◌, if◌then◌else◌}
use Rattle.std.specs.List.{list_any, list_all}
use Rattle.std.proofs.Common.{ap}
use Rattle.acl_core.specs.declared.criterion.Criterion.{Criterion}
use Rattle.acl_core.specs.declared.criterion.Value.{Value}
use Rattle.acl_core.specs.declared.condition.Acl.{Acl}
use Rattle.acl_core.specs.declared.condition.Operand.{Operand}
use Rattle.acl_core.specs.declared.condition.Operand.TheVariants as operands
use Rattle.acl_core.specs.declared.condition.Term.{Term}
use Rattle.acl_core.specs.declared.condition.When.{When}
use Rattle.acl_core.specs.declared.condition.When.TheVariants.{Always, If, Unless}
use Rattle.acl_core.specs.TestValue.{TestValue}
use Rattle.acl_core.specs.Truth.{matches, test_holds, named_holds, operand_holds, term_holds, applies}
use Rattle.tenant_laws.specs.Parts.{acl_passes, group_passes, operand_passes, when_passes}
use Rattle.tenant_laws.proofs.Lists.{both}

pub any-kept : {X : Type 0} (keeps p q : X → Bool) (xs : List X) → list_all keeps xs ≡ true → ((x : X) → keeps x ≡ true → p x ≡ q x) → list_any p xs ≡ list_any q xs
any-kept keeps p q [] kept same = refl
any-kept keeps p q (x ∷ xs) kept same =
    let parts = both (keeps x) (list_all keeps xs) kept in
    cc (same x parts.0, any-kept keeps p q xs parts.1 same)

pub all-kept : {X : Type 0} (keeps p q : X → Bool) (xs : List X) → list_all keeps xs ≡ true → ((x : X) → keeps x ≡ true → p x ≡ q x) → list_all p xs ≡ list_all q xs
all-kept keeps p q [] kept same = refl
all-kept keeps p q (x ∷ xs) kept same =
    let parts = both (keeps x) (list_all keeps xs) kept in
    cc (same x parts.0, all-kept keeps p q xs parts.1 same)

pub find-kept : {X : Type 0} (keeps p q : X → Bool) (xs : List X) → list_all keeps xs ≡ true → ((x : X) → keeps x ≡ true → p x ≡ q x) → find p xs ≡ find q xs
find-kept keeps p q [] kept same = refl
find-kept keeps p q (x ∷ xs) kept same =
    let parts = both (keeps x) (list_all keeps xs) kept in
    rw (same x parts.0, find-kept keeps p q xs parts.1 same) refl

module _ (passes : Criterion → Bool) (acls : List Acl) (f g : Criterion → Value) (same : (criterion : Criterion) → passes criterion ≡ true → f criterion ≡ g criterion) where
  test-same : (test : TestValue) → passes test.criterion ≡ true → test_holds f test ≡ test_holds g test
  test-same test kept = ap (λ value. list_any (matches value) test.patterns) (same test.criterion kept)

  named-same : (acl : Option Acl) → acl_passes passes acl ≡ true → named_holds f acl ≡ named_holds g acl
  named-same None kept = refl
  named-same (Some acl) kept = any-kept (λ test. passes test.criterion) (test_holds f) (test_holds g) acl.tests kept test-same

  operand-same : (operand : Operand) → operand_passes passes acls operand ≡ true → operand_holds acls f operand ≡ operand_holds acls g operand
  operand-same (operands.Constant truth) kept = refl
  operand-same (operands.Test test) kept = test-same test kept
  operand-same (operands.Acl number) kept = named-same (slice_get acls number) kept

  term-same : (term : Term) → operand_passes passes acls term.operand ≡ true → term_holds acls f term ≡ term_holds acls g term
  term-same term kept = ap (λ truth. if term.negated then not truth else truth) (operand-same term.operand kept)

  groups-same : (groups : List (List Term)) → list_all (group_passes passes acls) groups ≡ true →
      list_any (λ group. list_all (term_holds acls f) group) groups ≡ list_any (λ group. list_all (term_holds acls g) group) groups
  groups-same groups kept =
      any-kept (group_passes passes acls) (λ group. list_all (term_holds acls f) group) (λ group. list_all (term_holds acls g) group) groups kept
      (λ group kept'. all-kept (λ term. operand_passes passes acls term.operand) (term_holds acls f) (term_holds acls g) group kept' term-same)

  pub applies-kept : (when : When) → when_passes passes acls when ≡ true → applies acls f when ≡ applies acls g when
  applies-kept Always kept = refl
  applies-kept (If condition) kept = groups-same condition.groups kept
  applies-kept (Unless condition) kept = ap not (groups-same condition.groups kept)
