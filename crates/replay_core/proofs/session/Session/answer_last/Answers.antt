use Rattle.std.proofs.Common.{◌≡◌, ◌⊎◌, ℕ, List, [], ◌∷◌, Some, sym, ap, ◌∙◌, inl, inr}
use Rattle.std.proofs.lemmas.Result.{IfErr-weaker, on_ok_weaker, err_from_is_err_and}
use Rattle.replay_core.specs.Replay.{final_outcome}
use Rattle.replay_core.specs.Progress.{ReplayProgress, IsLineFault, total, total_of_lines}
use Rattle.replay_core.specs.declared.fault.ReplayFault.{ReplayFault}
use Rattle.replay_core.specs.declared.fault.ReplayFault.TheVariants.{NoMemory}
use Rattle.replay_core.proofs.session.Session.answer_last.Goals as goal

-- a fault of a line that is the last one
last_fault : (t u : ReplayProgress) (line : List ℕ) (fault : ReplayFault)
    → (fault ≡ NoMemory) ⊎ (IsLineFault fault × ((sent : List ℕ) (more : List (List ℕ)) → total sent u (final_outcome (Some fault)) ≡ total_of_lines sent t (line ∷ more)))
    → (fault ≡ NoMemory) ⊎ (IsLineFault fault × ((sent : List ℕ) → total sent u (final_outcome (Some fault)) ≡ total_of_lines sent t (line ∷ [])))
last_fault t u line fault (inl is) = inl is
last_fault t u line fault (inr stop) = inr (stop.0, λ sent. stop.1 sent [])

pub returns-in_err-answer_line-clause-err : goal.returns-in_err-answer_line-clause-err
returns-in_err-answer_line-clause-err c =
    let p = err_from_is_err_and c.from_residual.result c.from_residual.ensures.1 in
    rw (p.1, p.2) (last_fault c.args.self.now c.answer_line.new.self c.args.line.now _ c.in_err-answer_line.ensures.err)

pub returns-clause-ok : goal.returns-clause-ok
returns-clause-ok c =
    on_ok_weaker c.at_end.result (λ end sent. ap (total sent c.answer_line.new.self) (sym end) ∙ c.in_ok-answer_line.ensures.ok sent []) c.at_end.ensures.ok

pub returns-clause-err : goal.returns-clause-err
returns-clause-err c =
    IfErr-weaker c.at_end.result _ _
    (λ fault why. inr (why.0, λ sent. ap (total sent c.answer_line.new.self) (sym why.1) ∙ c.in_ok-answer_line.ensures.ok sent []))
    c.at_end.ensures.err
