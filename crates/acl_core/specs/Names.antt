-- The names of the faults.
use Rattle.std.specs.Prelude.{ℕ, List, codes}
use Rattle.acl_core.specs.declared.fault.AclFault.{AclFault}
use Rattle.acl_core.specs.declared.fault.AclFault.TheVariants.{UnknownCriterion, BadPattern, NoPattern, UnknownName, BadBraces, EmptyGroup, BadName, NoMemory}

abbrev pub name_of : AclFault → List ℕ
name_of UnknownCriterion = codes "UnknownCriterion"
name_of BadPattern = codes "BadPattern"
name_of NoPattern = codes "NoPattern"
name_of UnknownName = codes "UnknownName"
name_of BadBraces = codes "BadBraces"
name_of EmptyGroup = codes "EmptyGroup"
name_of BadName = codes "BadName"
name_of NoMemory = codes "NoMemory"
