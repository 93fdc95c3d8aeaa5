-- A check from the opening of a plan on.
use Rattle.std.proofs.Common.{◌≡◌, ◌⊎◌, inl, inr, ℕ, List, [], Result, Ok, Err, refl, ap, sym, subst, ◌∙◌}
use Rattle.text_core.specs.Parts.{parts, is_line_feed}
use Rattle.plan_types.specs.declared.plan.Plan.{Plan}
use Rattle.config_core.specs.Meaning.{meaning}
use Rattle.config_core.specs.declared.fault.OpenFault.{OpenFault}
use Rattle.conn_core.specs.Machine.{IsOpened}
use Rattle.conn_model.specs.declared.plain.Plain.{Plain}
use Rattle.conn_model.specs.History.{Entry, IsWell, opening}
use Rattle.audit_core.specs.Verdict.{counts_from, counts_of, fault_at, history_on, verdict, IsChecked, LinePlace}
use Rattle.audit_core.specs.Standing.{Standing, IsStarted, standing_counts, start, verdict_in}
use Rattle.audit_core.specs.Check.{IsFaultOf, Stops}
use Rattle.audit_core.specs.declared.fault.Checked.{Checked}
use Rattle.audit_core.specs.declared.fault.CheckFault.{CheckFault}
use Rattle.audit_core.specs.declared.fault.CheckKind.{CheckKind}
use Rattle.audit_core.specs.declared.fault.CheckKind.TheVariants.{NoMemory, Read, Config}
use Rattle.audit_core.proofs.VerdictLemmas.{verdict_start}
use Rattle.audit_core.proofs.RecordLemmas.{Whole, right_record}

-- the counts of a text that is right
pub right_verdict : (text : List ℕ) (checked : Checked) (plan : Plan) → IsWell (opening plan 0) → standing_counts (verdict_in (start (opening plan 0)) (parts is_line_feed text)) ≡ Ok checked
    → verdict plan text ≡ Ok checked
right_verdict text checked plan well is = verdict_start plan text well ∙ is

-- The history of which a text that is right is the record.
pub record IsFound (plan : Plan) (text : List ℕ) (checked : Checked) : Type 0 where
  pub history : List Entry
  pub reads : history_on (opening plan 0) [] 0 LinePlace.between (parts is_line_feed text) ≡ Ok history
  pub whole : Whole (opening plan 0) history (parts is_line_feed text)
  pub counts : counts_of (opening plan 0) history ≡ checked

pub right_found : (plan : Plan) (text : List ℕ) (checked : Checked) → verdict plan text ≡ Ok checked → IsFound plan text checked
right_found plan text checked is = by (history_on (opening plan 0) [] 0 LinePlace.between (parts is_line_feed text)) refl is
  where
    by : (found : Result (List Entry) CheckFault) → history_on (opening plan 0) [] 0 LinePlace.between (parts is_line_feed text) ≡ found → counts_from (opening plan 0) found ≡ Ok checked
        → IsFound plan text checked
    by (Err fault) reads wrong = absurd (cc)
    by (Ok history) reads right =
        record { history = history; reads = reads; whole = right_record (opening plan 0) (parts is_line_feed text) history reads; counts = cc }

-- it is the record of a legal history
pub right_checked : (config text : List ℕ) (checked : Checked) (plan : Plan) → meaning config ≡ Ok plan → verdict plan text ≡ Ok checked → IsChecked config text checked
right_checked config text checked plan means is =
    let found = right_found plan text checked is in
    record {
      plan = plan;
      history = found.history;
      means = means;
      legal = found.whole.legal;
      is_record = found.whole.is_record;
      within = found.whole.within;
      counts = sym found.counts;
    }

-- the fault of a text that is wrong
pub wrong_verdict : (config text : List ℕ) (kind : CheckKind) (line : ℕ) (plan : Plan) → meaning config ≡ Ok plan → IsWell (opening plan 0) → Stops (start (opening plan 0)) text kind line
    → IsFaultOf config text kind line
wrong_verdict config text NoMemory line plan means well stops = stops
wrong_verdict config text Read line plan means well stops = stops
wrong_verdict config text (Config fault) line plan means well stops = absurd stops
wrong_verdict config text kind line plan means well stops = (plan, means, verdict_start plan text well ∙ ap standing_counts stops)

-- the same of a check at the opening of a configuration
pub right_from : (config text : List ℕ) (checked : Checked) (s : Standing) → IsStarted config s → standing_counts (verdict_in s (parts is_line_feed text)) ≡ Ok checked
    → (plan : Plan) × (meaning config ≡ Ok plan) × (verdict plan text ≡ Ok checked)
right_from config text checked s started is = (
  started.0,
  started.1,
  right_verdict text checked started.0 started.2 (subst (λ t. standing_counts (verdict_in t (parts is_line_feed text)) ≡ Ok checked) started.3 is),
)

pub checked_from : (config text : List ℕ) (checked : Checked) (s : Standing) → IsStarted config s → standing_counts (verdict_in s (parts is_line_feed text)) ≡ Ok checked
    → IsChecked config text checked
checked_from config text checked s started is =
    let right = right_from config text checked s started is in right_checked config text checked right.0 right.1 right.2

pub wrong_from : (config text : List ℕ) (kind : CheckKind) (line : ℕ) (s : Standing) → IsStarted config s → Stops s text kind line → IsFaultOf config text kind line
wrong_from config text kind line s started stops =
    wrong_verdict config text kind line started.0 started.1 started.2 (subst (λ t. Stops t text kind line) started.3 stops)

pub opens : (config : List ℕ) (core : Plain) (s : Standing) → IsOpened config 0 core → IsWell core → s ≡ start core → IsStarted config s
opens config core s opened well is = (opened.0, opened.1, subst IsWell opened.2 well, is ∙ ap start opened.2)

-- a configuration that is refused
pub refused : (config text : List ℕ) (fault : CheckFault) → (fault ≡ fault_at 0 NoMemory) ⊎ ((o : OpenFault) × (fault ≡ fault_at 0 (Config o)) × (meaning config ≡ Err o))
    → IsFaultOf config text fault.kind fault.line
refused config text fault (inl is) = let none : IsFaultOf config text NoMemory 0 = refl in subst (λ f. IsFaultOf config text f.kind f.line) (sym is) none
refused config text fault (inr why) =
    let none : IsFaultOf config text (Config why.0) 0 = (refl, why.2) in subst (λ f. IsFaultOf config text f.kind f.line) (sym why.1) none
