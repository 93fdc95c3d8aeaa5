-- The names of the faults.
use Rattle.std.specs.Prelude.{ℕ, List, codes}
pub use Rattle.conf_line.specs.Names.{conf_name}
use Rattle.plan_core.specs.declared.fault.PlanKind.{PlanKind}
use Rattle.plan_core.specs.declared.fault.PlanKind.TheVariants as plans

abbrev pub plan_name : PlanKind → List ℕ
plan_name plans.NoTable = codes "NoTable"
plan_name plans.NoBackend = codes "NoBackend"
plan_name plans.NotStored = codes "NotStored"
plan_name plans.NoBind = codes "NoBind"
plan_name plans.NoFrontend = codes "NoFrontend"
plan_name plans.NoMemory = codes "NoMemory"
