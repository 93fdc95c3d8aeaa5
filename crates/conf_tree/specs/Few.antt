-- How many sections there are.
use Rattle.std.specs.Prelude.{List, ◌≤◌, length, filter}
use Rattle.conf_tree.specs.declared.tree.ConfigLine.{ConfigLine}
use Rattle.proxy_types.specs.declared.limits.TheConstants.{MOST_SECTIONS}
use Rattle.conf_tree.specs.Config.{claims_of, is_frontend, is_backend}

-- at most 64 lines open a frontend, and at most 64 a backend
abbrev pub FewSections : List ConfigLine → Type 0
FewSections items = (length (filter is_frontend (claims_of items)) ≤ MOST_SECTIONS) × (length (filter is_backend (claims_of items)) ≤ MOST_SECTIONS)
