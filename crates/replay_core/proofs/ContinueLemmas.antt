-- How a replay continues on.
use Rattle.std.proofs.Common.{◌≡◌, ℕ, List, ◌∷◌, ◌++◌, Option, Some, refl, ap, subst, sym, ◌∙◌, append_assoc}
use Rattle.text_core.specs.Parts.{parts, is_line_feed}
use Rattle.replay_core.specs.Replay.{IsFront, ReplayOutcome}
use Rattle.replay_core.specs.Turns.{script_outcome_in}
use Rattle.replay_core.specs.Progress.{ReplayProgress, Continues, IsFrontOf, total_of, total_of_lines}

-- nothing done yet
pub continues_start : (sent : List ℕ) (s : ReplayProgress) (bytes : List ℕ) (held : Option (List ℕ)) → held ≡ Some sent → Continues sent s bytes held s bytes
continues_start sent s bytes held is = record { now = sent; is_held = is; same = λ more. refl }

-- one part and the next
pub continues_on : (sent : List ℕ) (s : ReplayProgress) (bytes : List ℕ) (held : Option (List ℕ)) (t : ReplayProgress) (rest : List ℕ) (new : Option (List ℕ)) (u : ReplayProgress) (last : List ℕ)
    → Continues sent s bytes held t rest → ((now : List ℕ) → held ≡ Some now → Continues now t rest new u last) → Continues sent s bytes new u last
continues_on sent s bytes held t rest new u last continues step =
    let next : Continues continues.now t rest new u last = step continues.now continues.is_held in
    record { now = next.now; is_held = next.is_held; same = λ more. next.same more ∙ continues.same more }

-- with more bytes after them
pub continues_more : (sent : List ℕ) (s : ReplayProgress) (bytes : List ℕ) (held : Option (List ℕ)) (t : ReplayProgress) (rest more : List ℕ)
    → Continues sent s bytes held t rest → Continues sent s (bytes ++ more) held t (rest ++ more)
continues_more sent s bytes held t rest more continues = record {
  now = continues.now;
  is_held = continues.is_held;
  same = λ next. ap (total_of continues.now t) (append_assoc rest more next) ∙ continues.same (more ++ next) ∙ ap (total_of sent s) (sym (append_assoc bytes more next));
}

-- one line on
pub continues_line : (sent : List ℕ) (s : ReplayProgress) (bytes : List ℕ) (held : Option (List ℕ)) (t u : ReplayProgress) (rest line after : List ℕ) → Continues sent s bytes held t rest
    → ((more : List ℕ) → parts is_line_feed (rest ++ more) ≡ line ∷ parts is_line_feed (after ++ more))
    → ((now : List ℕ) (more : List (List ℕ)) → total_of_lines now u more ≡ total_of_lines now t (line ∷ more))
    → Continues sent s bytes held u after
continues_line sent s bytes held t u rest line after continues cut step = record {
  now = continues.now;
  is_held = continues.is_held;
  same = λ more. step continues.now (parts is_line_feed (after ++ more)) ∙ ap (total_of_lines continues.now t) (sym (cut more)) ∙ continues.same more;
}

-- answers written
pub continues_sent : (sent : List ℕ) (s : ReplayProgress) (bytes : List ℕ) (held : Option (List ℕ)) (t : ReplayProgress) (rest : List ℕ) (new : Option (List ℕ)) (u : ReplayProgress) → Continues sent s bytes held t rest
    → ((now more : List ℕ) → held ≡ Some now → Continues now t more new u more) → Continues sent s bytes new u rest
continues_sent sent s bytes held t rest new u continues step =
    let next : Continues continues.now t rest new u rest = step continues.now rest continues.is_held in
    record { now = next.now; is_held = next.is_held; same = λ more. next.same more ∙ continues.same more }

-- what is held at any time is a front
pub front_continues : (sent : List ℕ) (s : ReplayProgress) (bytes : List ℕ) (held : Option (List ℕ)) (t : ReplayProgress) (rest : List ℕ) → Continues sent s bytes held t rest → IsFrontOf sent s bytes held
front_continues sent s bytes held t rest continues = λ more. (
  continues.now,
  t.unsent ++ (script_outcome_in t.plain t.reload t.before (rest ++ more)).text,
  continues.is_held,
  ap (λ (o : ReplayOutcome). o.text) (sym (continues.same more)) ∙ append_assoc continues.now t.unsent (script_outcome_in t.plain t.reload t.before (rest ++ more)).text,
)

-- a write that failed on the way leaves a front
pub front_sent : (sent : List ℕ) (s : ReplayProgress) (bytes : List ℕ) (held : Option (List ℕ)) (t : ReplayProgress) (rest : List ℕ) (new : Option (List ℕ)) → Continues sent s bytes held t rest
    → ((now more : List ℕ) → held ≡ Some now → IsFrontOf now t more new) → IsFrontOf sent s bytes new
front_sent sent s bytes held t rest new continues step =
    λ more. subst (λ (o : ReplayOutcome). IsFront new o.text) (continues.same more) (step continues.now rest continues.is_held more)
