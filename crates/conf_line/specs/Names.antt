-- The names of the faults.
use Rattle.std.specs.Prelude.{ℕ, List, ◌++◌, codes}
use Rattle.conf_text.specs.Names as lines
use Rattle.acl_core.specs.Names as acls
use Rattle.conf_line.specs.declared.fault.ConfKind.{ConfKind}
use Rattle.conf_line.specs.declared.fault.ConfKind.TheVariants as kinds

abbrev pub conf_name : ConfKind → List ℕ
conf_name (kinds.Text kind) = codes "Text " ++ lines.name_of kind
conf_name kinds.NoSection = codes "NoSection"
conf_name kinds.UnknownKeyword = codes "UnknownKeyword"
conf_name kinds.Unsupported = codes "Unsupported"
conf_name kinds.MissingWord = codes "MissingWord"
conf_name kinds.ExtraWord = codes "ExtraWord"
conf_name kinds.BadNumber = codes "BadNumber"
conf_name kinds.BadAddress = codes "BadAddress"
conf_name kinds.Duplicate = codes "Duplicate"
conf_name (kinds.Acl fault) = codes "Acl " ++ acls.name_of fault
conf_name kinds.Limit = codes "Limit"
conf_name kinds.NoMemory = codes "NoMemory"
