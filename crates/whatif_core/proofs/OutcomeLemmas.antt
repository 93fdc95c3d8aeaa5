-- What comes of a record in another configuration.
use Rattle.std.proofs.Common.{◌≡◌, ◌⊎◌, inl, inr, ℕ, Bool, List, [], ◌++◌, Option, Some, Result, Ok, Err, refl, ap, sym, subst, ◌∙◌}
use Rattle.text_core.specs.Parts.{parts, is_line_feed}
use Rattle.plan_types.specs.declared.plan.Plan.{Plan}
use Rattle.config_core.specs.Meaning.{meaning}
use Rattle.config_core.specs.declared.fault.OpenFault.{OpenFault}
use Rattle.conn_model.specs.declared.plain.Plain.{Plain}
use Rattle.conn_model.specs.declared.reply.StepFault.{StepFault}
use Rattle.conn_model.specs.History.{Entry, IsWell, opening}
use Rattle.replay_core.specs.declared.fault.PrintFault.{PrintFault}
use Rattle.replay_core.specs.declared.fault.PrintFault.TheVariants as prints
use Rattle.audit_core.specs.Audit.{fault_text}
use Rattle.audit_core.specs.Check.{IsFaultOf, IsOutside}
use Rattle.audit_core.specs.Standing.{standing_counts, start, verdict_in, IsStarted, Standing}
use Rattle.audit_core.specs.Verdict.{counts_from, fault_at, history_on, verdict, LinePlace}
use Rattle.audit_core.specs.declared.fault.CheckFault.{CheckFault}
use Rattle.audit_core.specs.declared.fault.Checked.{Checked}
use Rattle.audit_core.specs.declared.fault.CheckKind.{CheckKind}
use Rattle.audit_core.specs.declared.fault.CheckKind.TheVariants.{Format, WrongReply, NoMemory, Read, TooLong, Config}
use Rattle.audit_core.proofs.OutputLemmas.{counts_from_start}
use Rattle.audit_core.proofs.PassLemmas.{same_plan}
use Rattle.audit_core.proofs.RecordLemmas.{right_record}
use Rattle.whatif_core.specs.Lines.{report_of_record, Both}
use Rattle.whatif_core.specs.Noting.{Printed}
use Rattle.whatif_core.specs.Reporting.{history_report, trial_opening, written_of, Report}
use Rattle.whatif_core.specs.Whatif.{output_by, output_of, output_of_trial, whatif_output, IsCompared, IsRefused, IsRight, IsTrial}
use Rattle.whatif_core.proofs.HistoryLemmas.{report_history}

-- the history that a right text records
abbrev Records : Plan → List ℕ → Type 0
Records plan text = (g : List Entry) × (history_on (opening plan 0) [] 0 LinePlace.between (parts is_line_feed text) ≡ Ok g)

records : (plan : Plan) (text : List ℕ) (checked : Checked) → verdict plan text ≡ Ok checked → Records plan text
records plan text checked right = by (history_on (opening plan 0) [] 0 LinePlace.between (parts is_line_feed text)) refl right
  where
    by : (found : Result (List Entry) CheckFault) → history_on (opening plan 0) [] 0 LinePlace.between (parts is_line_feed text) ≡ found → counts_from (opening plan 0) found ≡ Ok checked → Records plan text
    by (Err fault) reads is = absurd (cc)
    by (Ok g) reads is = (g, reads)

-- its whole report from the openings on
report_right_text : (summary : Bool) (config other text : List ℕ) (trial : Plain) (s : Both) (right : IsRight config other text trial) → IsStarted config s.checked → s.trial ≡ trial
    → report_of_record summary s text ≡ history_report summary (opening right.opened.plan 0) trial (records right.opened.plan text right.checked right.right).0
report_right_text summary config other text trial s right started is =
    let plan = right.opened.plan in
    let found = records plan text right.checked right.right in
    let same : started.0 ≡ plan = same_plan config started.0 plan started.1 right.opened.means in
    ap (λ c. report_of_record summary (record { checked = c; trial = s.trial }) text) (started.3 ∙ ap (λ p. start (opening p 0)) same)
    ∙ ap (λ n. report_of_record summary (record { checked = start (opening plan 0); trial = n }) text) is
    ∙ report_history summary plan trial text found.0 (subst (λ p. IsWell (opening p 0)) same started.2) found.1

pub compared : (summary : Bool) (config other text sent : List ℕ) (trial : Plain) (s : Both) (held : Option (List ℕ)) (differing : ℕ) → IsRight config other text trial → IsStarted config s.checked
    → s.trial ≡ trial → Printed summary s text sent held differing → IsCompared summary config other text sent held differing
compared summary config other text sent trial s held differing right started is printed =
    let plan = right.opened.plan in
    let found = records plan text right.checked right.right in
    let same = report_right_text summary config other text trial s right started is in
    let whole = right_record (opening plan 0) (parts is_line_feed text) found.0 found.1 in
    record {
      plan = plan;
      trial = trial;
      history = found.0;
      means = right.opened.means;
      opens = right.opened.opens;
      legal = whole.legal;
      is_record = whole.is_record;
      reads = found.1;
      wrote = printed.wrote ∙ ap (λ t. Some (sent ++ written_of t)) same;
      counts = printed.counts ∙ ap (λ (t : Report). t.sums.differing) same;
    }

output_is : (summary : Bool) (config other text : List ℕ) (plan : Plan) (trial : Plain) (g : List Entry) → meaning config ≡ Ok plan → trial_opening plan other ≡ Ok trial
    → history_on (opening plan 0) [] 0 LinePlace.between (parts is_line_feed text) ≡ Ok g → written_of (history_report summary (opening plan 0) trial g) ≡ whatif_output summary config other text
output_is summary config other text plan trial g means opens reads =
    ap (output_of summary plan trial) (sym reads) ∙ ap (output_of_trial summary plan text) (sym opens) ∙ ap (λ m. output_by summary m other text) (sym means)

-- the same by the definition of what is written
pub output_right : (summary : Bool) (config other text : List ℕ) (trial : Plain) (s : Both) → IsRight config other text trial → IsStarted config s.checked → s.trial ≡ trial
    → written_of (report_of_record summary s text) ≡ whatif_output summary config other text
output_right summary config other text trial s right started is =
    let plan = right.opened.plan in
    let found = records plan text right.checked right.right in
    ap written_of (report_right_text summary config other text trial s right started is)
    ∙ output_is summary config other text plan trial found.0 right.opened.means right.opened.opens found.1

pub output_compared : (summary : Bool) (config other text sent : List ℕ) (held : Option (List ℕ)) (differing : ℕ) → IsCompared summary config other text sent held differing
    → held ≡ Some (sent ++ whatif_output summary config other text)
output_compared summary config other text sent held differing is =
    is.wrote ∙ ap (λ xs. Some (sent ++ xs)) (output_is summary config other text is.plan is.trial is.history is.means is.opens is.reads)

-- the check of a right text comes to its end
pub right_end : (config other text : List ℕ) (trial : Plain) (s : Standing) → IsRight config other text trial → IsStarted config s → (end : Standing) × (verdict_in s (parts is_line_feed text) ≡ Ok end)
right_end config other text trial s right started =
    by (verdict_in s (parts is_line_feed text)) (counts_from_start config text right.opened.plan right.checked s started right.opened.means right.right)
  where
    by : (found : Result Standing CheckFault) → standing_counts found ≡ Ok right.checked → (end : Standing) × (found ≡ Ok end)
    by (Err fault) is = absurd (cc)
    by (Ok end) is = (end, refl)

-- ---- a text that is wrong

wrong_text : (summary : Bool) (config other text : List ℕ) (trial : Plain) (plan : Plan) (fault : CheckFault) → IsTrial config other trial → meaning config ≡ Ok plan → verdict plan text ≡ Err fault
    → whatif_output summary config other text ≡ fault_text fault
wrong_text summary config other text trial plan fault opened means wrong =
    let same : opened.plan ≡ plan = same_plan config opened.plan plan opened.means means in
    ap (λ m. output_by summary m other text) opened.means
    ∙ ap (output_of_trial summary opened.plan text) opened.opens
    ∙ by (history_on (opening opened.plan 0) [] 0 LinePlace.between (parts is_line_feed text)) (ap (λ p. verdict p text) same ∙ wrong)
  where
    by : (found : Result (List Entry) CheckFault) → counts_from (opening opened.plan 0) found ≡ Err fault → output_of summary opened.plan trial found ≡ fault_text fault
    by (Ok g) is = absurd (cc)
    by (Err other) is = let same : other ≡ fault = cc in ap fault_text same

fault_by : (summary : Bool) (config other text : List ℕ) (trial : Plain) (kind : CheckKind) (line : ℕ) → IsTrial config other trial → IsFaultOf config text kind line → (IsOutside kind → ⊥)
    → whatif_output summary config other text ≡ fault_text (fault_at line kind)
fault_by summary config other text trial Format line opened is inside = wrong_text summary config other text trial is.0 (fault_at line Format) opened is.1 is.2
fault_by summary config other text trial WrongReply line opened is inside = wrong_text summary config other text trial is.0 (fault_at line WrongReply) opened is.1 is.2
fault_by summary config other text trial TooLong line opened is inside = wrong_text summary config other text trial is.0 (fault_at line TooLong) opened is.1 is.2
fault_by summary config other text trial NoMemory line opened is inside = absurd (inside tt)
fault_by summary config other text trial Read line opened is inside = absurd (inside tt)
fault_by summary config other text trial (Config fault) line opened is inside = let both = sym opened.means ∙ is.1 in absurd (cc)

-- the line of its fault is what is to be written
pub fault_output : (summary : Bool) (config other text : List ℕ) (trial : Plain) (fault : CheckFault) → IsTrial config other trial → IsFaultOf config text fault.kind fault.line → (IsOutside fault.kind → ⊥)
    → whatif_output summary config other text ≡ fault_text fault
fault_output summary config other text trial fault opened is inside = fault_by summary config other text trial fault.kind fault.line opened is inside

-- a configuration that is refused
pub config_output : (summary : Bool) (config other text : List ℕ) (fault : OpenFault) → meaning config ≡ Err fault → whatif_output summary config other text ≡ fault_text (fault_at 0 (Config fault))
config_output summary config other text fault is = ap (λ m. output_by summary m other text) is

-- and another one that is
pub other_output : (summary : Bool) (config other text : List ℕ) (fault : StepFault) → IsRefused config other fault → whatif_output summary config other text ≡ []
other_output summary config other text fault is = ap (λ m. output_by summary m other text) is.means ∙ ap (output_of_trial summary is.plan text) is.refused

-- ---- what is opened again

-- why a configuration that was opened is not opened once more
abbrev pub IsReopened : List ℕ → PrintFault → Type 0
IsReopened config f = (f ≡ prints.NoMemory) ⊎ ((f ≡ prints.Read) × (refused : OpenFault) × (meaning config ≡ Err refused))

pub reopened : (config : List ℕ) (fault : CheckFault) (f : PrintFault) → (fault ≡ fault_at 0 NoMemory) ⊎ ((o : OpenFault) × (fault ≡ fault_at 0 (Config o)) × (meaning config ≡ Err o))
    → (fault.kind ≡ NoMemory → f ≡ prints.NoMemory) → ((f ≡ prints.NoMemory) ⊎ (f ≡ prints.Read)) → IsReopened config f
reopened config fault f (inl none) leads either = inl (leads (ap (λ (g : CheckFault). g.kind) none))
reopened config fault f (inr why) leads (inl memory) = inl memory
reopened config fault f (inr why) leads (inr read) = inr (read, why.0, why.2)

pub never_reopened : (config other text : List ℕ) (trial : Plain) (f : PrintFault) → IsRight config other text trial → IsReopened config f → f ≡ prints.Read → ⊥
never_reopened config other text trial f right (inl none) read = let both = sym none ∙ read in cc
never_reopened config other text trial f right (inr why) read = let both = sym why.2 ∙ right.opened.means in cc

-- a right text is right in the configuration that the trial opens with
pub right_in : (config other text : List ℕ) (trial : Plain) (checked : Checked) → IsTrial config other trial → ((plan : Plan) × (meaning config ≡ Ok plan) × (verdict plan text ≡ Ok checked))
    → IsRight config other text trial
right_in config other text trial checked opened right = record {
  opened = opened;
  checked = checked;
  right = ap (λ p. verdict p text) (same_plan config opened.plan right.0 opened.means right.1) ∙ right.2;
}
