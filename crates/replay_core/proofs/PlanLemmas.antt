-- A replay from the opening of a plan on.
use Rattle.std.proofs.Common.{◌≡◌, ◌⊎◌, ℕ, List, [], ◌++◌, Option, Some, None, Ok, ap, subst, sym, ◌∙◌, inl, inr, zero-add}
use Rattle.plan_types.specs.declared.plan.Plan.{Plan}
use Rattle.config_core.specs.Meaning.{meaning}
use Rattle.conn_model.specs.declared.plain.Plain.{Plain}
use Rattle.conn_model.specs.History.{IsWell, opening}
use Rattle.conn_core.specs.Machine.{IsOpened}
use Rattle.replay_core.specs.Replay.{IsCutAtEnd, IsCutShort, IsEndedBy, IsFront, IsReplayed, IsStopped, ReplayOutcome, script_outcome}
use Rattle.replay_core.specs.Progress.{ReplayProgress}
use Rattle.replay_core.specs.Reading.{IsCut, IsCutAfterAll, Ends, WritesAll}
use Rattle.replay_core.specs.declared.fault.ReplayFault.{ReplayFault}
use Rattle.replay_core.specs.declared.fault.ReplayFault.TheVariants.{Config, Format, TooLong, Read, Write, NoMemory}
use Rattle.replay_core.proofs.OutcomeLemmas.{start, total_start}

abbrev begun : Plain → ReplayProgress
begun core = record { plain = core; reload = None; before = 0; answered = 0; unsent = [] }

-- where a configuration is opened, a replay begins at the opening of its plan
pub begins : (config : List ℕ) (core : Plain) (s : ReplayProgress) → IsOpened config 0 core → IsWell core → s ≡ begun core
    → (plan : Plan) × (meaning config ≡ Ok plan) × IsWell (opening plan 0) × (s ≡ start plan)
begins config core s opened well is = (opened.0, opened.1, subst IsWell opened.2 well, is ∙ ap begun opened.2)

-- What was written of a script is what comes of it.
record IsWritten (plan : Plan) (script sent : List ℕ) (held : Option (List ℕ)) (lines : ℕ) (fault : Option ReplayFault) : Type 0 where
  pub ends : (script_outcome plan script).fault ≡ fault
  pub wrote : held ≡ Some (sent ++ (script_outcome plan script).text)
  pub counts : (script_outcome plan script).lines ≡ lines

written : (script sent : List ℕ) (held : Option (List ℕ)) (lines : ℕ) (fault : Option ReplayFault) (plan : Plan) → IsWell (opening plan 0) → WritesAll sent (start plan) script held lines fault
    → IsWritten plan script sent held lines fault
written script sent held lines fault plan well all =
    let same = total_start plan sent script well in
    record {
      ends = sym (ap (λ (o : ReplayOutcome). o.fault) same) ∙ all.ends;
      wrote = all.wrote ∙ ap (λ (o : ReplayOutcome). Some o.text) same;
      counts = sym (ap (λ (o : ReplayOutcome). o.lines) same ∙ zero-add (script_outcome plan script).lines) ∙ all.counts;
    }

pub writes_script : (config script sent : List ℕ) (held : Option (List ℕ)) (lines : ℕ) (plan : Plan) → meaning config ≡ Ok plan → IsWell (opening plan 0)
    → WritesAll sent (start plan) script held lines None → IsReplayed config script sent held lines
writes_script config script sent held lines plan means well wrote =
    let all = written script sent held lines None plan well wrote in
    record { plan = plan; means = means; ends = all.ends; wrote = all.wrote; counts = all.counts }

stopped_by : (config script sent : List ℕ) (held : Option (List ℕ)) (lines : ℕ) (fault : ReplayFault) (plan : Plan) → meaning config ≡ Ok plan → IsWell (opening plan 0)
    → WritesAll sent (start plan) script held lines (Some fault) → IsStopped config script sent held fault
stopped_by config script sent held lines fault plan means well wrote =
    let all = written script sent held lines (Some fault) plan well wrote in record { plan = plan; means = means; ends = all.ends; wrote = all.wrote }

cut_short : (config script sent : List ℕ) (left held : Option (List ℕ)) (plan : Plan) → meaning config ≡ Ok plan → IsWell (opening plan 0)
    → IsCut sent (start plan) script left held → IsCutShort config script sent left held
cut_short config script sent left held plan means well cut =
    let front = λ (more : List ℕ). subst (λ (o : ReplayOutcome). IsFront held o.text) (total_start plan sent (cut.got ++ more) well) (cut.front more) in
    record { plan = plan; means = means; got = cut.got; rest = cut.rest; is_left = cut.is_left; is_read = cut.is_read; front = front }

cut_at_end : (config script sent : List ℕ) (left held : Option (List ℕ)) (plan : Plan) → meaning config ≡ Ok plan → IsWell (opening plan 0)
    → IsCutAfterAll sent (start plan) script left held → IsCutAtEnd config script sent left held
cut_at_end config script sent left held plan means well cut = record {
  plan = plan;
  means = means;
  is_left = cut.is_left;
  front = subst (λ (o : ReplayOutcome). IsFront held o.text) (total_start plan sent script well) cut.front;
}

cut_either : (config script sent : List ℕ) (left held : Option (List ℕ)) (plan : Plan) → meaning config ≡ Ok plan → IsWell (opening plan 0)
    → IsCut sent (start plan) script left held ⊎ IsCutAfterAll sent (start plan) script left held → IsCutShort config script sent left held ⊎ IsCutAtEnd config script sent left held
cut_either config script sent left held plan means well (inl cut) = inl (cut_short config script sent left held plan means well cut)
cut_either config script sent left held plan means well (inr cut) = inr (cut_at_end config script sent left held plan means well cut)

pub ends_by : (config script sent : List ℕ) (left held : Option (List ℕ)) (lines : ℕ) (fault : ReplayFault) (plan : Plan) → meaning config ≡ Ok plan → IsWell (opening plan 0)
    → Ends sent (start plan) script left held lines fault → IsEndedBy config script sent left held fault
ends_by config script sent left held lines (Config fault) plan means well ends = absurd ends
ends_by config script sent left held lines (Format line) plan means well ends = stopped_by config script sent held lines (Format line) plan means well ends
ends_by config script sent left held lines (TooLong line) plan means well ends = stopped_by config script sent held lines (TooLong line) plan means well ends
ends_by config script sent left held lines Read plan means well ends = cut_short config script sent left held plan means well ends
ends_by config script sent left held lines Write plan means well ends = cut_either config script sent left held plan means well ends
ends_by config script sent left held lines NoMemory plan means well ends = inr (cut_short config script sent left held plan means well ends)
