use Rattle.explain_core.specs.Listeners.{IsBestOf}
use Rattle.explain_core.proofs.listeners.listener_number.Given as goal

abbrev pub invariant-loop-place : goal.invariant-loop-place
invariant-loop-place l = IsBestOf l.listeners l.frontend l.local l.place l.best
