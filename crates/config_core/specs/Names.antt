-- How a fault of a configuration is printed.
use Rattle.std.specs.Prelude.{ℕ, List, ◌++◌, codes}
use Rattle.std.specs.Fmt.{decimal}
use Rattle.plan_core.specs.Names.{conf_name, plan_name}
use Rattle.config_core.specs.declared.fault.OpenFault.{OpenFault}
use Rattle.config_core.specs.declared.fault.OpenFault.TheVariants.{Config, Plan, NoMemory}

abbrev pub open_text : OpenFault → List ℕ
open_text (Config fault) = codes "line " ++ (decimal fault.line ++ (codes ": " ++ conf_name fault.kind))
open_text (Plan fault) = codes "line " ++ (decimal fault.line ++ (codes ": " ++ plan_name fault.kind))
open_text NoMemory = codes "no memory"
