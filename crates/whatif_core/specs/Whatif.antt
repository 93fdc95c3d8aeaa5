-- A record, played against another configuration.
use Rattle.std.specs.Prelude.{◌≡◌, ℕ, Bool, List, [], ◌++◌, Option, Some, Result, Ok, Err}
use Rattle.text_core.specs.Parts.{parts, is_line_feed}
use Rattle.plan_types.specs.declared.plan.Plan.{Plan}
use Rattle.config_core.specs.Meaning.{meaning}
use Rattle.config_core.specs.declared.fault.OpenFault.{OpenFault}
use Rattle.conn_model.specs.declared.plain.Plain.{Plain}
use Rattle.conn_model.specs.declared.reply.StepFault.{StepFault}
use Rattle.conn_model.specs.History.{opening, Entry, IsLegal}
use Rattle.audit_core.specs.Audit.{fault_text}
use Rattle.audit_core.specs.Check.{IsFaultOf}
use Rattle.audit_core.specs.Record.{IsRecord}
use Rattle.audit_core.specs.Verdict.{fault_at, history_on, verdict, LinePlace}
use Rattle.audit_core.specs.declared.fault.CheckFault.{CheckFault}
use Rattle.audit_core.specs.declared.fault.Checked.{Checked}
use Rattle.audit_core.specs.declared.fault.CheckKind.TheVariants.{Config}
use Rattle.whatif_core.specs.declared.opening.TrialFault.{TrialFault}
use Rattle.whatif_core.specs.declared.opening.TrialFault.TheVariants as trial_fault
use Rattle.whatif_core.specs.declared.comparison.Comparison.{Comparison}
use Rattle.whatif_core.specs.declared.comparison.Comparison.TheVariants.{Compared, Wrong, Refused}
use Rattle.whatif_core.specs.Reporting.{history_report, trial_opening, written_of}

-- the trial at its opening: it opens with the configuration, and the other one replaced it in a reload
pub record IsTrial (config other : List ℕ) (trial : Plain) : Type 0 where
  pub plan : Plan
  pub means : meaning config ≡ Ok plan
  pub opens : trial_opening plan other ≡ Ok trial

-- the configuration is opened, and the other one cannot replace it
pub record IsRefused (config other : List ℕ) (fault : StepFault) : Type 0 where
  pub plan : Plan
  pub means : meaning config ≡ Ok plan
  pub refused : trial_opening plan other ≡ Err fault

-- why there is no trial
abbrev pub IsTrialFault : List ℕ → List ℕ → TrialFault → Type 0
IsTrialFault config other (trial_fault.Config fault) = meaning config ≡ Err fault
IsTrialFault config other (trial_fault.Other fault) = IsRefused config other fault
IsTrialFault config other trial_fault.NoMemory = Unit {0}

-- There is a trial, and the text is right.
pub record IsRight (config other text : List ℕ) (trial : Plain) : Type 0 where
  pub opened : IsTrial config other trial
  pub checked : Checked
  pub right : verdict opened.plan text ≡ Ok checked

abbrev pub IsPlayed : List ℕ → List ℕ → List ℕ → Type 0
IsPlayed config other text = (trial : Plain) × IsRight config other text trial

-- what comes of two configurations and a text
abbrev pub IsComparison : List ℕ → List ℕ → List ℕ → Comparison → Type 0
IsComparison config other text (Compared differing) = IsPlayed config other text
IsComparison config other text (Wrong fault) = IsFaultOf config text fault.kind fault.line
IsComparison config other text (Refused fault) = IsRefused config other fault

abbrev pub output_of : Bool → Plan → Plain → Result (List Entry) CheckFault → List ℕ
output_of summary plan trial (Ok h) = written_of (history_report summary (opening plan 0) trial h)
output_of summary plan trial (Err fault) = fault_text fault

abbrev pub output_of_trial : Bool → Plan → List ℕ → Result Plain StepFault → List ℕ
output_of_trial summary plan text (Ok trial) = output_of summary plan trial (history_on (opening plan 0) [] 0 LinePlace.between (parts is_line_feed text))
output_of_trial summary plan text (Err fault) = []

abbrev pub output_by : Bool → Result Plan OpenFault → List ℕ → List ℕ → List ℕ
output_by summary (Ok plan) other text = output_of_trial summary plan text (trial_opening plan other)
output_by summary (Err fault) other text = fault_text (fault_at 0 (Config fault))

-- what is written of two configurations and a record: its differences and its counts, or the line of its fault
abbrev pub whatif_output : Bool → List ℕ → List ℕ → List ℕ → List ℕ
whatif_output summary config other text = output_by summary (meaning config) other text

-- The text is the record of a legal history; the report of that history was written after what was written before, and
-- anything differs so often in it: a decision, or what comes of a connection whose server is out of reach.
pub record IsCompared (summary : Bool) (config other text sent : List ℕ) (held : Option (List ℕ)) (differing : ℕ) : Type 0 where
  pub plan : Plan
  pub trial : Plain
  pub history : List Entry
  pub means : meaning config ≡ Ok plan
  pub opens : trial_opening plan other ≡ Ok trial
  pub legal : IsLegal (opening plan 0) history
  pub is_record : IsRecord history (parts is_line_feed text)
  pub reads : history_on (opening plan 0) [] 0 LinePlace.between (parts is_line_feed text) ≡ Ok history
  pub wrote : held ≡ Some (sent ++ written_of (history_report summary (opening plan 0) trial history))
  pub counts : differing ≡ (history_report summary (opening plan 0) trial history).sums.differing
