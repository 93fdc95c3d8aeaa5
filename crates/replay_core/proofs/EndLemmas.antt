-- How a replay ends.
use Rattle.std.proofs.Common.{◌≡◌, ◌≢◌, ◌⊎◌, ℕ, true, List, [], ◌∷◌, ◌++◌, Option, Some, None, refl, ap, subst, sym, ◌∙◌, inl, inr, add-zero}
use Rattle.std.proofs.lemmas.List.{append-nil}
use Rattle.event_text.specs.Script.{Pending}
use Rattle.replay_core.specs.Replay.{IsFront, ReplayOutcome, ending, final_outcome}
use Rattle.replay_core.specs.Progress.{ReplayProgress, Continues, IsFrontOf, total, total_of}
use Rattle.replay_core.specs.Reading.{Reaches, AnswersAll, IsCut, IsCutAfterAll, StopsAtLine, Stops, WritesAll, Ends, writes_answers}
use Rattle.replay_core.specs.declared.fault.ReplayFault.{ReplayFault}
use Rattle.replay_core.specs.declared.fault.ReplayFault.TheVariants.{Format, TooLong, Read, Write}
use Rattle.replay_core.proofs.ContinueLemmas.{front_continues, front_sent, continues_sent}

wrote_all : (sent : List ℕ) (s : ReplayProgress) (script now : List ℕ) (new : Option (List ℕ)) (t : ReplayProgress) (fault : Option ReplayFault) → total now t (final_outcome fault) ≡ total_of sent s script
    → new ≡ Some (now ++ t.unsent) → WritesAll sent s script new t.answered fault
wrote_all sent s script now new t fault same is = record {
  ends = sym (ap (λ (o : ReplayOutcome). o.fault) same);
  wrote = is ∙ ap Some (sym (append-nil (now ++ t.unsent)) ∙ ap (λ (o : ReplayOutcome). o.text) same);
  counts = sym (ap (λ (o : ReplayOutcome). o.lines) same) ∙ add-zero t.answered;
}

ending_text : (reload : Option Pending) (before : ℕ) → (ending reload before).text ≡ []
ending_text None before = refl
ending_text (Some reload) before = refl

-- what was written of the answers to the end is a front of them
front_all : (sent : List ℕ) (s : ReplayProgress) (script now : List ℕ) (new : Option (List ℕ)) (t : ReplayProgress) (fault : Option ReplayFault) → total now t (final_outcome fault) ≡ total_of sent s script
    → IsFrontOf now t [] new → IsFront new (total_of sent s script).text
front_all sent s script now new t fault same front =
    let all : IsFront new (total now t (final_outcome fault)).text = subst (λ xs. IsFront new (now ++ t.unsent ++ xs)) (ending_text t.reload t.before) (front []) in
    subst (λ (o : ReplayOutcome). IsFront new o.text) same all

pub done_ok : (sent : List ℕ) (s : ReplayProgress) (script : List ℕ) (held new : Option (List ℕ)) (t : ReplayProgress) (fault : Option ReplayFault) → AnswersAll sent s script held t fault
    → ((now : List ℕ) → held ≡ Some now → new ≡ Some (now ++ t.unsent)) → WritesAll sent s script new t.answered fault
done_ok sent s script held new t fault done wrote = wrote_all sent s script done.now new t fault done.same (wrote done.now done.is_held)

pub done_write : (sent : List ℕ) (s : ReplayProgress) (script : List ℕ) (left held new : Option (List ℕ)) (t : ReplayProgress) (fault : Option ReplayFault) → left ≡ Some [] → AnswersAll sent s script held t fault
    → ((now bytes : List ℕ) → held ≡ Some now → IsFrontOf now t bytes new) → IsCutAfterAll sent s script left new
done_write sent s script left held new t fault is done front =
    record { is_left = is; front = front_all sent s script done.now new t fault done.same (front done.now [] done.is_held) }

stopped_ok : (sent : List ℕ) (s : ReplayProgress) (script : List ℕ) (left held new : Option (List ℕ)) (t : ReplayProgress) (fault : Option ReplayFault) → StopsAtLine sent s script left held t fault
    → ((now : List ℕ) → held ≡ Some now → new ≡ Some (now ++ t.unsent)) → WritesAll sent s script new t.answered fault
stopped_ok sent s script left held new t fault stopped wrote =
    wrote_all sent s script stopped.now new t fault (stopped.same stopped.rest (λ e. e) ∙ ap (total_of sent s) (sym stopped.is_read)) (wrote stopped.now stopped.is_held)

stopped_write : (sent : List ℕ) (s : ReplayProgress) (script : List ℕ) (left held new : Option (List ℕ)) (t : ReplayProgress) (fault : Option ReplayFault) → StopsAtLine sent s script left held t fault
    → ((now bytes : List ℕ) → held ≡ Some now → IsFrontOf now t bytes new) → IsCut sent s script left new ⊎ IsCutAfterAll sent s script left new
stopped_write sent s script left held new t fault stopped front =
    by stopped.rest stopped.is_left stopped.is_read stopped.same (front stopped.now [] stopped.is_held)
  where
    by : (rest : List ℕ) → left ≡ Some rest → script ≡ stopped.got ++ rest → ((more : List ℕ) → (rest ≡ [] → more ≡ []) → total stopped.now t (final_outcome fault) ≡ total_of sent s (stopped.got ++ more))
        → IsFrontOf stopped.now t [] new → IsCut sent s script left new ⊎ IsCutAfterAll sent s script left new
    by [] is read same all = inr (record { is_left = is; front = front_all sent s script stopped.now new t fault (same [] (λ e. e) ∙ ap (total_of sent s) (sym read)) all })
    by (b ∷ rest) is read same all =
        inl (record {
          got = stopped.got;
          rest = b ∷ rest;
          is_left = is;
          is_read = read;
          front = λ more. front_all sent s (stopped.got ++ more) stopped.now new t fault (same more (λ (e : (b ∷ rest) ≡ []). cc)) all;
        })

-- a fault after which the answers were written
pub finish_ok : (sent : List ℕ) (s : ReplayProgress) (script : List ℕ) (left held new : Option (List ℕ)) (t u : ReplayProgress) (fault : ReplayFault) → writes_answers fault ≡ true → u.answered ≡ t.answered
    → ((now : List ℕ) → held ≡ Some now → new ≡ Some (now ++ t.unsent)) → ((now bytes : List ℕ) → held ≡ Some now → Continues now t bytes new u bytes)
    → Stops sent s script left held t fault → Ends sent s script left new u.answered fault
finish_ok sent s script left held new t u (Format line) answers same wrote continues stops =
    subst (λ n. WritesAll sent s script new n (Some (Format line))) (sym same) (stopped_ok sent s script left held new t (Some (Format line)) stops wrote)
finish_ok sent s script left held new t u (TooLong line) answers same wrote continues stops =
    subst (λ n. WritesAll sent s script new n (Some (TooLong line))) (sym same) (stopped_ok sent s script left held new t (Some (TooLong line)) stops wrote)
finish_ok sent s script left held new t u Read answers same wrote continues stops =
    let reaches : Reaches sent s script left held t stops.0 = stops.1 in
    record {
      got = reaches.got;
      rest = reaches.rest;
      is_left = reaches.is_left;
      is_read = reaches.is_read;
      front = front_continues sent s reaches.got new u stops.0 (continues_sent sent s reaches.got held t stops.0 new u reaches.continues continues);
    }
finish_ok sent s script left held new t u fault answers same wrote continues stops = cc

-- a fault after which the answers could not be written
pub finish_write : (sent : List ℕ) (s : ReplayProgress) (script : List ℕ) (left held new : Option (List ℕ)) (t : ReplayProgress) (fault : ReplayFault) → writes_answers fault ≡ true
    → ((now bytes : List ℕ) → held ≡ Some now → IsFrontOf now t bytes new) → Stops sent s script left held t fault → IsCut sent s script left new ⊎ IsCutAfterAll sent s script left new
finish_write sent s script left held new t (Format line) answers front stops = stopped_write sent s script left held new t (Some (Format line)) stops front
finish_write sent s script left held new t (TooLong line) answers front stops = stopped_write sent s script left held new t (Some (TooLong line)) stops front
finish_write sent s script left held new t Read answers front stops =
    let reaches : Reaches sent s script left held t stops.0 = stops.1 in
    inl (record {
      got = reaches.got;
      rest = reaches.rest;
      is_left = reaches.is_left;
      is_read = reaches.is_read;
      front = front_sent sent s reaches.got held t stops.0 new reaches.continues front;
    })
finish_write sent s script left held new t fault answers front stops = cc

pub ends_write : (sent : List ℕ) (s : ReplayProgress) (script : List ℕ) (left new : Option (List ℕ)) (lines : ℕ) (fault : ReplayFault) → fault ≡ Write
    → IsCut sent s script left new ⊎ IsCutAfterAll sent s script left new → Ends sent s script left new lines fault
ends_write sent s script left new lines fault is cut = subst (Ends sent s script left new lines) (sym is) cut

pub finish_other : (fault : ReplayFault) → writes_answers fault ≡ true → fault ≢ Write
finish_other fault answers is = let answers' : writes_answers Write ≡ true = subst (λ f. writes_answers f ≡ true) is answers in cc
