use Rattle.std.proofs.Common.{◌≡◌, ◌++◌, drop}
use Rattle.explain_core.specs.Tried.{tried_choices}
use Rattle.explain_core.proofs.tried.try_choices.Given as goal

abbrev pub invariant-loop-choice : goal.invariant-loop-choice
invariant-loop-choice g l =
    l.list.items ++ tried_choices (g.V.View.acls l.view) (g.V.View.worth l.view) (drop l.choice-index l.choices) ≡ tried_choices (g.V.View.acls l.view) (g.V.View.worth l.view) l.choices
