-- What an `acl` line says.
use Rattle.std.specs.Prelude.{ℕ, ◌∷◌, List, [], Result, Ok, Err}
use Rattle.list_core.specs.Each.{◌>>=◌}
use Rattle.acl_core.specs.declared.fault.AclFault.{AclFault}
use Rattle.acl_core.specs.TestValue.{TestValue}
use Rattle.acl_core.specs.Reading.{declared_name, test_of}
use Rattle.conf_line.specs.declared.statement.Statement.{Statement}
use Rattle.conf_line.specs.declared.statement.Statement.TheVariants as statements
use Rattle.conf_line.specs.declared.fault.ConfKind.{ConfKind}
use Rattle.conf_line.specs.declared.fault.ConfKind.TheVariants.{MissingWord, Acl}
use Rattle.conf_line.specs.Words.{word_at}

-- a fault of a test or a condition is one of its line
abbrev pub acl_result : {X : Type 0} → Result X AclFault → Result X ConfKind
acl_result (Ok x) = Ok x
acl_result (Err fault) = Err (Acl fault)

-- the name of an ACL, and the words after it
abbrev pub acl_name_at : List (List ℕ) → Result (List ℕ × List (List ℕ)) ConfKind
acl_name_at words = do
  word ← word_at words
  name ← acl_result (declared_name word.0)
  Ok (name, word.1)

-- a criterion and its values
abbrev pub test_at : List (List ℕ) → Result TestValue ConfKind
test_at [] = Err MissingWord
test_at (word ∷ rest) = acl_result (test_of (word ∷ rest))

abbrev pub acl_of : List (List ℕ) → Result Statement ConfKind
acl_of words = do
  name ← acl_name_at words
  test ← test_at name.1
  Ok (statements.Acl name.0 test)
