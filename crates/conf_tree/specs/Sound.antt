-- What the items of every tree keep.
use Rattle.std.specs.Prelude.{◌≡◌, ◌≤◌, false, List, [], ◌∷◌, length, filter}
use Rattle.std.specs.List.{AllByRecursion}
use Rattle.conf_line.specs.Sound.{IsSoundStatement}
use Rattle.conf_tree.specs.declared.claim.Claim.{Claim}
use Rattle.conf_tree.specs.declared.tree.ConfigLine.{ConfigLine}
use Rattle.proxy_types.specs.declared.limits.TheConstants.{MOST_BINDS, MOST_SERVERS}
use Rattle.conf_tree.specs.Config.{claims_of, same_claim, has_server, is_bind, is_server}
use Rattle.conf_tree.specs.Few.{FewSections}
use Rattle.conf_tree.specs.Rising.{Rises}
use Rattle.conf_tree.specs.Sections.{own_lines}

-- no claim is the same as an earlier one
abbrev pub ClaimsDiffer : List Claim → Type 0
ClaimsDiffer [] = Unit {0}
ClaimsDiffer (claim ∷ rest) = AllByRecursion (λ later. same_claim later claim ≡ false) rest × ClaimsDiffer rest

-- the numbers of each line are within their limits
abbrev pub AreSoundStatements : List ConfigLine → Type 0
AreSoundStatements items = AllByRecursion (λ item. IsSoundStatement item.statement) items

-- no server has the name of a later one
abbrev pub ServersDiffer : List ConfigLine → Type 0
ServersDiffer [] = Unit {0}
ServersDiffer (item ∷ rest) = (has_server rest item.statement ≡ false) × ServersDiffer rest

-- the lines of one section, without the one that opens it
pub record IsSoundSection (lines : List ConfigLine) : Type 0 where
  pub binds : length (filter (λ item. is_bind item.statement) lines) ≤ MOST_BINDS
  pub servers : length (filter (λ item. is_server item.statement) lines) ≤ MOST_SERVERS
  pub names : ServersDiffer lines

-- the lines after each item, up to the next section, keep that
abbrev pub AreSoundSections : List ConfigLine → Type 0
AreSoundSections [] = Unit {0}
AreSoundSections (item ∷ rest) = IsSoundSection (own_lines rest) × AreSoundSections rest

pub record IsSoundTree (items : List ConfigLine) : Type 0 where
  pub rises : Rises items
  pub few : FewSections items
  pub statements : AreSoundStatements items
  pub claims : ClaimsDiffer (claims_of items)
  pub sections : AreSoundSections items
