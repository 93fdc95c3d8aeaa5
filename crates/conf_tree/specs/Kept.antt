-- What is kept of the lines so far.
use Rattle.std.specs.Prelude.{◌≡◌, ℕ, ◌≤◌, false, List, [], ◌∷◌, ◌++◌, length, if◌then◌else◌}
use Rattle.std.specs.List.{list_any}
use Rattle.std.specs.Str.{bytes_eq}
use Rattle.conf_line.specs.declared.statement.Statement.{Statement}
use Rattle.conf_line.specs.declared.statement.Statement.TheVariants as statements
use Rattle.conf_line.specs.Sound.{IsSoundStatement}
use Rattle.conf_tree.specs.declared.claim.Claim.{Claim}
use Rattle.conf_tree.specs.declared.tree.ConfigLine.{ConfigLine}
use Rattle.conf_tree.specs.Config.{known_names, claims_of, is_taken, is_full, place_after, place_of, section_lines}
use Rattle.conf_tree.specs.Few.{FewSections}
use Rattle.conf_tree.specs.Sections.{opens}
use Rattle.conf_tree.specs.Sound.{AreSoundStatements, ClaimsDiffer, AreSoundSections}

-- the lines from the last one on that opens a section, or all
abbrev pub last_section : List ConfigLine → List ConfigLine
last_section [] = []
last_section (item ∷ rest) = if list_any (λ other. opens other.statement) rest then last_section rest else item ∷ rest

-- what is kept beside the items agrees with them
pub record IsKept (items : List ConfigLine) (claims : List Claim) (known : List (List ℕ)) : Type 0 where
  pub taken : claims ≡ claims_of items
  pub names : known ≡ known_names items
  -- their section begins among them
  pub place : (place_after items).first ≤ length items
  pub few : FewSections items
  pub statements : AreSoundStatements items
  pub differ : ClaimsDiffer (claims_of items)
  -- the section of the next line, if it opens none, is the last one
  pub section : section_lines (place_after items) items ≡ last_section items
  pub sections : AreSoundSections items

-- the item may come after those
pub record IsNext (items : List ConfigLine) (item : ConfigLine) : Type 0 where
  pub place : item.place ≡ place_of (place_after items) (length items) item.statement
  pub sound : IsSoundStatement item.statement
  pub free : is_taken items item.place item.statement ≡ false
  pub room : is_full items item.place item.statement ≡ false

-- the names known after a line, where those are known before it: a section begins with none
abbrev pub names_after : List (List ℕ) → Statement → List (List ℕ)
names_after known statements.Global = []
names_after known statements.Defaults = []
names_after known (statements.Frontend name) = []
names_after known (statements.Backend name) = []
names_after known (statements.Acl name test) = if list_any (λ other. bytes_eq other name) known then known else known ++ name ∷ []
names_after known statements.Nothing = known
names_after known (statements.MaxConn limit) = known
names_after known (statements.Timeout kind ms) = known
names_after known (statements.Retries count) = known
names_after known (statements.Redispatch every) = known
names_after known (statements.DefaultBackend name) = known
names_after known (statements.Balance method) = known
names_after known (statements.Bind at proxy) = known
names_after known (statements.Rule list action when) = known
names_after known (statements.UseBackend name when) = known
names_after known (statements.StickTable table) = known
names_after known (statements.Server server) = known
