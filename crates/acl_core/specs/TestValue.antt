-- A test as a contract sees it.
use Rattle.std.specs.Prelude.{List}
use Rattle.acl_core.specs.declared.criterion.Criterion.{Criterion}
use Rattle.acl_core.specs.declared.criterion.Pattern.{Pattern}

-- a criterion, and the patterns that its value is compared with
pub record TestValue : Type 0 where
  pub criterion : Criterion
  pub patterns : List Pattern
