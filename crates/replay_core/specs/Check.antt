-- What `check` writes of a configuration.
use Rattle.std.specs.Prelude.{ℕ, List, ◌++◌, codes, Option, Some, None, Result, Ok, Err}
use Rattle.plan_types.specs.declared.plan.Plan.{Plan}
use Rattle.config_core.specs.Meaning.{meaning}
use Rattle.config_core.specs.Names.{open_text}
use Rattle.config_core.specs.declared.fault.OpenFault.{OpenFault}

-- the fault of a text that has no plan
abbrev pub fault_in : Result Plan OpenFault → Option OpenFault
fault_in (Ok plan) = None
fault_in (Err fault) = Some fault

-- the line of a fault
abbrev pub refused_line : OpenFault → List ℕ
refused_line fault = open_text fault ++ codes "\n"

abbrev pub verdict_line : Result Plan OpenFault → List ℕ
verdict_line (Ok plan) = codes "ok\n"
verdict_line (Err fault) = refused_line fault

-- one line: that the text has a plan, or its fault
abbrev pub check_output : List ℕ → List ℕ
check_output config = verdict_line (meaning config)
