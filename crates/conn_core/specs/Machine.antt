-- The state of a core, and what a step decides before anything changes.
use Rattle.std.specs.Prelude.{ℕ, List, Some, slice_get, ◌≡◌, ◌+◌, ◌<◌, ◌^◌, Ok}
use Rattle.plan_types.specs.declared.plan.Plan.{Plan}
use Rattle.conn_model.specs.declared.plain.FrontendRows.{FrontendRows}
use Rattle.conn_model.specs.declared.plain.Listener.{Listener}
use Rattle.conn_model.specs.declared.plain.Plain.{Plain}
use Rattle.conn_model.specs.History.{newest_number, opening, IsWell}
use Rattle.conn_rows.specs.Value.{RowsValue}
pub use Rattle.conn_rows.specs.Versions.{AreSound}
use Rattle.config_core.specs.Meaning.{meaning}
use Rattle.conn_core.specs.declared.machine.Admission.{Admission}

abbrev pub state_of : List Listener → RowsValue → Plain
state_of listeners rows = record { clock = rows.clock; listeners = listeners; frontends = rows.frontends; versions = rows.versions; tables = rows.tables; down = rows.down }

-- a state that a core can be in
pub record IsCoreState (p : Plain) : Type 0 where
  pub well : IsWell p
  pub plans : AreSound p.versions

-- the connection comes in under the next name of its frontend, and the newest version judges it
pub record IsNext (p : Plain) (admission : Admission) (own : FrontendRows) : Type 0 where
  pub there : slice_get p.frontends admission.id.frontend ≡ Some own
  pub next : admission.id.serial ≡ own.serial + 1
  pub fits : own.serial + 1 < 2 ^ 64
  pub version : admission.version ≡ newest_number p

-- the number is the next one after that of the newest version
pub record IsNextVersion (p : Plain) (number : ℕ) : Type 0 where
  pub next : number ≡ newest_number p + 1
  pub fits : number < 2 ^ 64

-- the core is the opening of the text
abbrev pub IsOpened : List ℕ → ℕ → Plain → Type 0
IsOpened text last core = (plan : Plan) × (meaning text ≡ Ok plan) × (core ≡ opening plan last)
