-- What a configuration means: its plan, or its fault.
use Rattle.std.specs.Prelude.{ℕ, List, Result, Ok, Err}
use Rattle.plan_core.specs.Config.{items_of}
use Rattle.plan_core.specs.declared.fault.PlanFault.{PlanFault}
use Rattle.plan_core.specs.Compiled.{plan_of, ConfFault, ConfigLine, Plan}
use Rattle.config_core.specs.declared.fault.OpenFault.{OpenFault}
use Rattle.config_core.specs.declared.fault.OpenFault.TheVariants as opens

abbrev pub opened : Result Plan PlanFault → Result Plan OpenFault
opened (Err fault) = Err (opens.Plan fault)
opened (Ok plan) = Ok plan

-- the plan of what the lines say; a wrong line is reported before a plan is asked for
abbrev pub meant : Result (List ConfigLine) ConfFault → Result Plan OpenFault
meant (Err fault) = Err (opens.Config fault)
meant (Ok items) = opened (plan_of items)

-- what a text means: its plan, or its fault
abbrev pub meaning : List ℕ → Result Plan OpenFault
meaning text = meant (items_of text)
